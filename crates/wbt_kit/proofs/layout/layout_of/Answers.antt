use Rattle.std.proofs.Common.{sym, ap, ◌∙◌, map, List, subst}
use Rattle.wbt_kit.proofs.Common.{Inode, place_of}
use Rattle.wbt_table.specs.Layout.{IsLayout}
use Rattle.wbt_kit.proofs.Laid.{is_layout}
use Rattle.wbt_kit.proofs.layout.layout_of.Goals as goal

pub returns-clause-layout : goal.returns-clause-layout
returns-clause-layout c =
    let trace = c.args.trace.now in
    let firsts = c.in_ok-firsts_of.ensures in
    let homes = c.in_ok-homes_of.ensures in
    let places = c.in_ok-places_of.ensures ∙ ap (λ (l : List Inode). map place_of l) c.as_slice.ensures in
    let writers = c.in_ok-writers_of.ensures in
    subst IsLayout (λ i. record {
      cpus = trace.cpus;
      cap = trace.cap;
      firsts = sym firsts i;
      contexts = sym homes i;
      inodes = sym places i;
      writers = sym writers i;
      page_steps = 8589934592;
    }) (is_layout trace c.args.now c.requires)
