use Rattle.std.proofs.Common.{◌≡◌, ◌*◌, ◌≤◌, take, flat_map, vec_len, vec_capacity}
use Rattle.wbt_journal.specs.Pieces.{column_text}
use Rattle.wbt_journal.proofs.kept.put_end.Given as goal

abbrev pub invariant-loop-column : goal.invariant-loop-column
invariant-loop-column l = record {
  text : l.end.items ≡ flat_map column_text (take l.column-index l.columns);
  len : vec_len l.end ≤ l.column-index * 82;
  room : vec_capacity l.initial.end ≤ vec_capacity l.end;
}
