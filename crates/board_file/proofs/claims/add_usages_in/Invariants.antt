use Rattle.std.proofs.Common.{◌≡◌, ◌++◌}
use Rattle.toml.specs.View.{members_view, table_view}
use Rattle.board_file.specs.Claims.{claims_in, core_claim_of}
use Rattle.board_file.proofs.claims.add_usages_in.Given as goal

-- the claims so far, and those that are left
abbrev pub invariant-members : goal.invariant-members
invariant-members l =
    l.claims.items ++ claims_in (core_claim_of (table_view l.root) l.usage) (members_view l.name-iterator)
    ≡ l.initial.claims.items ++ claims_in (core_claim_of (table_view l.root) l.usage) (members_view l.members.entries)
