-- A script without a fault isn't refused, but for want of memory or a read that failed.
use Rattle.std.proofs.Common.{◌≡◌, ℕ, ◌<◌, List, length, Option, Some, sym, ap, subst, ◌∙◌, arith}
use Rattle.std.specs.Prelude.{IfSome, Result, Ok, Err}
use Rattle.debug_script.specs.Scripts.{script_of}
use Rattle.debug_script.specs.declared.command.Command.{Command}
use Rattle.debug_script.specs.declared.fault.ScriptFault.{ScriptFault}
use Rattle.debug_script.specs.declared.fault.ScriptFault.TheVariants as fault
use Rattle.debug_job.specs.Loading.{ScriptsAreNotRefused, script_limit}
use Rattle.debug_job.specs.declared.refusal.ScriptRefusal.TheVariants.{CannotRead, TooLong, Refused, NoMemory}

-- what holds of all that is left holds of the text that is left
of_left : (P : List ℕ → Type 0) (left : Option (List ℕ)) (text : List ℕ) → left ≡ Some text → IfSome left P → P text
of_left P left text told h = let Q : Option (List ℕ) → Type 0 = λ o. IfSome o P in subst Q told h

ok_and_err : (result : Result (List Command) ScriptFault) (commands : List Command) (refusal : ScriptFault) → result ≡ Ok commands → result ≡ Err refusal → ⊥
ok_and_err result commands refusal ok err =
    let e : Ok commands ≡ Err refusal = sym ok ∙ err in
    cc

pub not_refused : ScriptsAreNotRefused
not_refused old new names text commands NoMemory told within is h = tt
not_refused old new names text commands CannotRead told within is h = h.0
not_refused old new names text commands TooLong told within is h =
    let longer : script_limit < length text = of_left (λ left. script_limit < length left) old.left text told h.0 in
    absurd (omega (arith, within, longer))
not_refused old new names text commands (Refused code line) told within is h =
    let same : text ≡ h.0 = of_left (λ left. left ≡ h.0) old.left text told h.1.0 in
    absurd (ok_and_err (script_of names text) commands (fault.Refused code line) is (ap (script_of names) same ∙ h.2))
