use Rattle.std.proofs.Common.{◌≡◌, ◌++◌}
use Rattle.toml.specs.View.{members_view}
use Rattle.board_file.specs.Claims.{claims_in, file_claim_of}
use Rattle.board_file.proofs.claims.add_files_in.Given as goal

-- the claims so far, and those that are left
abbrev pub invariant-members : goal.invariant-members
invariant-members l =
    l.claims.items ++ claims_in (file_claim_of l.sole l.rows l.key) (members_view l.name-iterator)
    ≡ l.initial.claims.items ++ claims_in (file_claim_of l.sole l.rows l.key) (members_view l.members.entries)
