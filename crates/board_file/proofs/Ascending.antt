-- The names of a table's rows ascend.
use Rattle.std.proofs.Common.{◌≡◌, true, List, [], ◌∷◌, refl}
use Rattle.std.specs.List.Sorted.{IsStrictlySortedBy}
use Rattle.std.specs.Map.{keys_of}
use Rattle.std.specs.String.{string_cmp}
use Rattle.toml.proofs.Views.{Entry, is_before-sorted}
use Rattle.toml.specs.View.{members_view}
use Rattle.board_file.specs.Tree.{are_ascending, rows_in}
use Rattle.board_file.specs.declared.keys.Rows.{Rows}
use Rattle.board_file.specs.declared.keys.Rows.TheVariants as rows
use Rattle.toml.specs.Data.{Members}

pub names_ascend : (es : List Entry) → IsStrictlySortedBy string_cmp (keys_of es) → are_ascending (members_view es) ≡ true
unfolding IsStrictlySortedBy
names_ascend [] h = refl
names_ascend (e ∷ es) h = rw (is_before-sorted e.0 es h.0, names_ascend es h.1) refl

pub each_ascends : (tree : Members) → are_ascending (rows_in tree rows.Core) ≡ true → are_ascending (rows_in tree rows.Link) ≡ true → are_ascending (rows_in tree rows.Timer) ≡ true
    → are_ascending (rows_in tree rows.Intc) ≡ true → are_ascending (rows_in tree rows.Uart) ≡ true → are_ascending (rows_in tree rows.Event) ≡ true → (r : Rows) → are_ascending (rows_in tree r) ≡ true
each_ascends tree c l t i u e rows.Core = c
each_ascends tree c l t i u e rows.Link = l
each_ascends tree c l t i u e rows.Timer = t
each_ascends tree c l t i u e rows.Intc = i
each_ascends tree c l t i u e rows.Uart = u
each_ascends tree c l t i u e rows.Event = e
