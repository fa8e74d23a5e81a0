use Rattle.std.proofs.Common.{◌≡◌, ◌+◌, ◌*◌, ◌^◌, ◌<◌, ℕ, get_or, List, sym, ap, ◌∙◌, subst, arith, to_z-of_z, rules, w64}
use Rattle.std.specs.Slots.{slots_counts}
use Rattle.wbt_table.proofs.Common.{local_in, own_at, width, Counted, word_at, OwnFits}
use Rattle.wbt_table.specs.Layout.{offsets}
use Rattle.wbt_table.specs.declared.layout.Layout.{Layout}
use Rattle.wbt_table.proofs.Lists.{at_read}
use Rattle.wbt_table.proofs.Places.{own_inside}
use Rattle.wbt_table.proofs.census.Census.local.Goals as goal

pub word-requires : goal.word-requires
word-requires c =
    let key : Layout = c.args.self.now.layout in
    let lay = ap (λ (z : Counted). z.layout) c.self.view_is in
    let off = c.self.invariant.2 ∙ ap offsets lay in
    let place : c.self.inside.offsets.own + (c.args.cpu * c.self.inside.offsets.stride + c.number.result) ≡ own_at key c.args.counter c.args.cpu =
    (λ i. (off i).own + (c.args.cpu * (off i).stride + c.number.ensures i)) in
    let less = own_inside key c.args.counter c.args.cpu c.requires.there c.requires.cpu in
    let long = c.self.invariant.3 in
    let count = (slots_counts c.self.inside.closed.words).0 in
    let wide = ap width lay in (omega arith, c.self.invariant.0)

pub local_of-requires : goal.local_of-requires
local_of-requires c =
    let key : Layout = c.args.self.now.layout in
    let lay = ap (λ (z : Counted). z.layout) c.self.view_is in
    let off = c.self.invariant.2 ∙ ap offsets lay in
    let items : List ℕ = c.self.inside.closed.words.items in
    let place : c.self.inside.offsets.own + (c.args.cpu * c.self.inside.offsets.stride + c.number.result) ≡ own_at key c.args.counter c.args.cpu =
    (λ i. (off i).own + (c.args.cpu * (off i).stride + c.number.ensures i)) in
    let read = at_read items (c.self.inside.offsets.own + (c.args.cpu * c.self.inside.offsets.stride + c.number.result)) c.word.result c.word.ensures 0 in
    let fits : OwnFits key items = subst (λ (k : Layout). OwnFits k items) lay c.self.invariant.5 in
    let small = fits c.args.counter c.args.cpu c.requires.there c.requires.cpu in
    record { fits = subst (λ (n : ℕ). n < 2 ^ 33) (sym (ap (λ (k : ℕ). get_or items k 0) place) ∙ read) small }

pub returns : goal.returns
returns c =
    let key : Layout = c.args.self.now.layout in
    let lay = ap (λ (z : Counted). z.layout) c.self.view_is in
    let off = c.self.invariant.2 ∙ ap offsets lay in
    let items : List ℕ = c.self.inside.closed.words.items in
    let place : c.self.inside.offsets.own + (c.args.cpu * c.self.inside.offsets.stride + c.number.result) ≡ own_at key c.args.counter c.args.cpu =
    (λ i. (off i).own + (c.args.cpu * (off i).stride + c.number.ensures i)) in
    let read = at_read items (c.self.inside.offsets.own + (c.args.cpu * c.self.inside.offsets.stride + c.number.result)) c.word.result c.word.ensures 0 in
    to_z-of_z {w = w64} (search rules) ∙ c.local_of.ensures.value ∙ ap local_in (sym read ∙ ap (λ (k : ℕ). get_or items k 0) place
    ∙ ap (λ (z : Counted). word_at z (own_at key c.args.counter c.args.cpu)) c.self.view_is)
