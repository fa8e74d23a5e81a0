use Rattle.std.proofs.Common.{◌∙◌, Result, Ok, Err, IsOk, OnOk, refl, ap}
use Rattle.wbt_top_plain.proofs.output.write_replay.Goals as goal

on_ok : {T E P : Type 0} (r : Result T E) → (IsOk r → P) → OnOk r P
on_ok (Ok value) holds = holds refl
on_ok (Err fault) holds = tt

pub returns-clause-controlled : goal.returns-clause-controlled
returns-clause-controlled g c =
    let e = c.in-Ok.ensures in
    on_ok c.of_print.result (λ ok. (
      record { followed = e.followed; pages = e.pages; within = e.within; decided = e.decided; points = e.points; lawful = e.lawful; whole = e.whole; ends = e.ends; order = e.order },
      λ spent. ((c.of_print.ensures.good).0 ok).1 (ap (λ j. j.ending) e.journal ∙ spent),
    ))
