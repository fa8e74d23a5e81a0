use Rattle.std.proofs.Common.{refl, sym, subst}
use Rattle.wbt_text.specs.Cut.{Without}
use Rattle.wbt_trace_tests.proofs.lines.is_read.Goals as goal

pub read_lines-requires : goal.read_lines-requires
read_lines-requires c = record {
  clear = record {
    once = λ marks text one other is is_too. refl;
    no_feed = λ marks text line is. subst (Without 10) (sym is) ((λ same. cc same), tt);
  };
}
