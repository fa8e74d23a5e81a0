-- Calls that leave the records, and note something of shares or of estimates.
use Rattle.std.proofs.Common.{◌≡◌, ℕ, ◌+◌, ◌<◌, ◌≤◌, List, length, Some, inl, inr, ⊎_elim, sym, refl, ap, subst, arith}
use Rattle.std.specs.Prelude.{sum_by}
use Rattle.wbt_flusher.proofs.Common.{times_in, Estimate, room_of, CpuRecord, Grows, Trace, Each, Told, Grew, Logged, NotedFlusherTurn, SharesGrew, IsOwn, IsOfFlusher, Flew, Worker, Kit, IsApart, Moments, IsTimed, handed, Did, IsWork, Sight, record_in, flusher_in, pages_in, shown_of, notes_of, OwesRescan, OwesMark, all_completions, owing, owing_total, list_by, Waited}
use Rattle.wbt_kit.proofs.Common.{KeepsStakes, room_in}
use Rattle.wbt_table.specs.Seat as table
use Rattle.wbt_run_laws.specs.Notes.{EstimatesGrew}
use Rattle.wbt_flusher.specs.declared.plan.FlusherPlan.{FlusherPlan}
use Rattle.wbt_flusher.proofs.Acting.{own_flew, own_waited, others_stay, rescan_or, mark_or}

pub record Noted (plan : FlusherPlan) (kit : Kit) (told : Moments) (old new : Sight) : Type 0 where
  pub added : List Told
  pub of_flusher : Each (IsOfFlusher plan.flusher) added
  pub logged : Logged added old.log new.log
  pub own : (trace : Trace) → IsWork trace plan kit → Each (IsOwn trace plan.cpu) added
  pub moments : Each (IsTimed told) added
  pub pages : Grows (Some (sum_by handed added)) old.written new.written
  pub flew : Flew plan.flusher (flusher_in old) added (flusher_in new)
  pub waited : (trace : Trace) → IsWork trace plan kit → Waited trace plan.flusher (list_by old.work) added (list_by new.work)
  pub cpu : new.seats.cpu ≡ old.seats.cpu
  pub grew : (r : CpuRecord) → Grew added r r
  pub shares : (base : Worker) → SharesGrew plan.cpu added (notes_of base old) (notes_of base new)
  pub estimates : (base : Worker) → EstimatesGrew kit.published.firsts plan.cpu added (notes_of base old) (notes_of base new)
  pub held : (page : ℕ) → times_in page (pages_in new) ≡ times_in page (pages_in old)
  pub rescans : (page : ℕ) → 1 ≤ times_in page (record_in plan old).owed_rescans → OwesRescan plan old.work.phase page → OwesRescan plan new.work.phase page
  pub marks : (inode : ℕ) → 1 ≤ times_in inode (record_in plan old).owed_marks → OwesMark old.work.phase inode → OwesMark new.work.phase inode
  pub rooms : (domain : ℕ) → domain < plan.domains
      → room_in domain old.seats.share.domains + owing plan domain new.work ≤ room_in domain new.seats.share.domains + owing plan domain old.work
  pub totals : (context : ℕ) → context < length plan.contexts
      → room_of context old.seats.share.totals.rooms + owing_total plan context new.work ≤ room_of context new.seats.share.totals.rooms + owing_total plan context old.work
  pub stakes : KeepsStakes old.seats.share.domains new.seats.share.domains
  pub total_stakes : new.seats.share.totals.stakes ≡ old.seats.share.totals.stakes

module _ (plan : FlusherPlan) (kit : Kit) (told : Moments) (old new : Sight) (noted : Noted plan kit told old new) where
  same_record : record_in plan new ≡ record_in plan old
  same_record = ap (λ (c : table.Seated). record_in plan (record old { seats = record old.seats { cpu = c } })) noted.cpu

  turn_told : (trace : Trace) → IsWork trace plan kit → (base : Worker)
      → NotedFlusherTurn trace kit.published.moment plan.cpu plan.flusher noted.added (shown_of plan base old) (shown_of plan base new) (notes_of base old) (notes_of base new)
  turn_told trace is base = record {
    turn = record {
      grew = subst (λ (r : CpuRecord). Grew noted.added (record_in plan old) r) (sym same_record) (noted.grew (record_in plan old));
      flew = own_flew plan base old new noted.added noted.flew;
      waited = own_waited plan base trace old new noted.added (noted.waited trace is);
      own = noted.own trace is;
      of_flusher = noted.of_flusher;
      firsts_stay = refl;
      others_stay = others_stay plan base old new;
      side_stays = refl;
      written_stays = λ task. refl;
    };
    shares = noted.shares base;
    estimates = subst (λ (l : List Estimate). EstimatesGrew l plan.cpu noted.added (notes_of base old) (notes_of base new)) is.firsts (noted.estimates base);
  }

  pub did_noted : Did plan kit told old new
  did_noted = record {
    added = noted.added;
    logged = noted.logged;
    turn = turn_told;
    moments = noted.moments;
    pages = noted.pages;
    apart = subst (λ (c : table.Seated). IsApart plan.cpu old.seats.cpu c) (sym noted.cpu) (record { others = λ c r other has. has; no_more = λ c r other has. has; timer = refl; layout = refl });
    writers = ap (λ (r : CpuRecord). r.writers) same_record;
    held = λ page. let same = ap (λ (r : CpuRecord). times_in page r.held) same_record in let kept = noted.held page in omega arith;
    rescans = λ page owes.
        let owed : 1 ≤ times_in page (record_in plan old).owed_rescans = subst (λ (r : CpuRecord). 1 ≤ times_in page r.owed_rescans) same_record owes in
        ⊎_elim (λ own. inl (noted.rescans page owed own)) (λ other. inr (owed, other)) (rescan_or plan old.work.phase page);
    marks = λ inode owes.
        let owed : 1 ≤ times_in inode (record_in plan old).owed_marks = subst (λ (r : CpuRecord). 1 ≤ times_in inode r.owed_marks) same_record owes in
        ⊎_elim (λ own. inl (noted.marks inode owed own)) (λ other. inr (owed, other)) (mark_or old.work.phase inode);
    rooms = λ domain is. let same = ap (λ (c : table.Seated). all_completions c.cpus) noted.cpu in let less = noted.rooms domain is in omega arith;
    totals = λ context is. let same = ap (λ (c : table.Seated). all_completions c.cpus) noted.cpu in let less = noted.totals context is in omega arith;
    stakes = noted.stakes;
    total_stakes = noted.total_stakes;
  }
