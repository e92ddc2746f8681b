use Rattle.std.proofs.Common.{◌≡◌, ◌++◌, ◌-◌, flat_map, length}
use Rattle.std.specs.List.{range_with_len}
use Rattle.mb_debug.specs.Prints.{link_at, links_text}
use Rattle.mb_debug.proofs.board_texts.add_links.Given as goal

-- what is there and the links that are left are all links
abbrev pub invariant-loop-k : goal.invariant-loop-k
invariant-loop-k g l =
    (l.k-end ≡ length l.board.fabric.links)
    × (l.fn.text.items ++ links_text l.names l.board ≡ l.text.items ++ flat_map (link_at l.names l.board) (range_with_len l.k (l.k-end - l.k)))
