-- The limit of cycles of a command is small; one that runs nothing has none.
use Rattle.std.proofs.Common.{◌≡◌, ℕ, ◌≤◌, List, [], ◌∷◌, Option, Some, None, Bool, true, false, cond, refl, subst, arith}
use Rattle.std.specs.Prelude.{nat_le, ◌&&◌, codes, option_map}
use Rattle.std.specs.List.{list_all}
use Rattle.std.specs.Str.{bytes_eq}
use Rattle.std.proofs.lemmas.Bool.Decides.{nat_tests}
use Rattle.std.proofs.lemmas.Option.{same_Some}
use Rattle.command_line.specs.declared.command.Command.{Command}
use Rattle.command_line.specs.declared.command.Command.TheVariants.{Asm, Debug, Demo, Dis, Profile, Raw, Run}
use Rattle.command_line.specs.declared.command.BoardCommand.{BoardCommand}
use Rattle.command_line.specs.declared.command.BoardCommand.TheVariants as on_board
use Rattle.command_line.specs.Words.{Form, Part, Text, asm_form, asm_of, asm_with, at_most_once, board_form, board_of, board_with, command_of, decimal_value, demo_form, demo_with, dis_form, dis_with, file_in, is_known, is_number, is_raised, most_cycles, most_number, number_in, parts, places, raw_form, raw_of, raw_with, run_form, run_of, run_with, said, values}

abbrev pub cycles_of : Command → ℕ
cycles_of (Raw file cycles) = cycles
cycles_of (Run board cycles journal write_journal) = cycles
cycles_of (Asm source output is_little) = 0
cycles_of (Dis image) = 0
cycles_of (Demo number) = 0
cycles_of (Profile board cycles entries) = cycles
cycles_of (Debug board cycles entries) = cycles

pub record IsSmall (c : Command) : Type 0 where
  pub cycles : cycles_of c ≤ 1_000_000_000_000

within : (a : Bool) (v limit n : ℕ) → cond (a && nat_le v limit) (Some v) None ≡ Some n → n ≤ limit
within true v limit n e = within_by (nat_le v limit) v limit n refl e where
  within_by : (b : Bool) (v limit n : ℕ) → nat_le v limit ≡ b → cond b (Some v) None ≡ Some n → n ≤ limit
  within_by true v limit n q e = let same : v ≡ n = same_Some _ _ e in grind (arith, nat_tests, q, same)
  within_by false v limit n q e = cc
within false v limit n e = cc

number_small : (limit : ℕ) (text : Text) (n : ℕ) → number_in limit text ≡ Some n → n ≤ limit
unfolding number_in
number_small limit text n e = within (is_number text) (decimal_value text) limit n e

once_small : (texts : List Text) (n : ℕ) → at_most_once 10_000_000 (number_in most_cycles) texts ≡ Some n → n ≤ 1_000_000_000_000
once_small [] n e = let same : 10_000_000 ≡ n = same_Some _ _ e in omega (arith, same)
once_small (text ∷ []) n e = number_small most_cycles text n e
once_small (text ∷ again ∷ more) n e = cc

raw_by : (file : Option Text) (cycles : Option ℕ) (c : Command) → ((n : ℕ) → cycles ≡ Some n → n ≤ 1_000_000_000_000) → raw_of file cycles ≡ Some c → IsSmall c
raw_by (Some file) (Some cycles) c h e = subst IsSmall (same_Some _ _ e) (record { cycles = h cycles refl })
raw_by (Some file) None c h e = cc
raw_by None (Some cycles) c h e = cc
raw_by None None c h e = cc

raw_small : (words : List Text) (c : Command) → raw_with words ≡ Some c → IsSmall c
raw_small (file ∷ cycles ∷ []) c e = raw_by (file_in file) (number_in most_cycles cycles) c (number_small most_cycles cycles) e
raw_small (file ∷ cycles ∷ more ∷ others) c e = cc
raw_small (file ∷ []) c e = cc
raw_small [] c e = cc

run_by : (board : Option Text) (cycles journal : Option ℕ) (write_journal : Option (Option Text)) (c : Command) → ((n : ℕ) → cycles ≡ Some n → n ≤ 1_000_000_000_000) → run_of board cycles journal write_journal ≡ Some c → IsSmall c
run_by (Some board) (Some cycles) (Some journal) (Some write_journal) c h e = subst IsSmall (same_Some _ _ e) (record { cycles = h cycles refl })
run_by (Some board) (Some cycles) (Some journal) None c h e = cc
run_by (Some board) (Some cycles) None w c h e = cc
run_by (Some board) None j w c h e = cc
run_by None x j w c h e = cc

run_small : (words cycles journal write_journal : List Text) (c : Command) → run_with words cycles journal write_journal ≡ Some c → IsSmall c
run_small (board ∷ []) cycles journal write_journal c e = run_by (file_in board) (at_most_once 10_000_000 (number_in most_cycles) cycles) _ _ c (once_small cycles) e
run_small (board ∷ more ∷ others) cycles journal write_journal c e = cc
run_small [] cycles journal write_journal c e = cc

board_by : (kind : BoardCommand) (board : Option Text) (cycles journal : Option ℕ) (c : Command) → ((n : ℕ) → cycles ≡ Some n → n ≤ 1_000_000_000_000) → board_of kind board cycles journal ≡ Some c → IsSmall c
board_by on_board.Profile (Some board) (Some cycles) (Some journal) c h e = subst IsSmall (same_Some _ _ e) (record { cycles = h cycles refl })
board_by on_board.Debug (Some board) (Some cycles) (Some journal) c h e = subst IsSmall (same_Some _ _ e) (record { cycles = h cycles refl })
board_by kind (Some board) (Some cycles) None c h e = cc
board_by kind (Some board) None j c h e = cc
board_by kind None x j c h e = cc

board_small : (kind : BoardCommand) (words cycles journal : List Text) (c : Command) → board_with kind words cycles journal ≡ Some c → IsSmall c
board_small kind (board ∷ []) cycles journal c e = board_by kind (file_in board) (at_most_once 10_000_000 (number_in most_cycles) cycles) _ c (once_small cycles) e
board_small kind (board ∷ more ∷ others) cycles journal c e = cc
board_small kind [] cycles journal c e = cc

all_small : (form : Form) → ((words : List Text) (values : Text → List Text) (c : Command) → form.meaning words values ≡ Some c → IsSmall c) → (b : Bool) (words : List Text) (values : Text → List Text) (c : Command) → cond b (form.meaning words values) None ≡ Some c → IsSmall c
all_small form h true words values c e = h words values c e
all_small form h false words values c e = cc

said_small : (form : Form) → ((words : List Text) (values : Text → List Text) (c : Command) → form.meaning words values ≡ Some c → IsSmall c) → (o : Option (List Part)) (c : Command) → said form o ≡ Some c → IsSmall c
said_small form h None c e = cc
said_small form h (Some ps) c e = all_small form h (list_all (is_known form) ps) (places ps) (values ps) c e

asm_by : (source output : Option Text) (little : Option Bool) (c : Command) → asm_of source output little ≡ Some c → IsSmall c
asm_by (Some source) (Some output) (Some little) c e = subst IsSmall (same_Some _ _ e) (record { cycles = omega arith })
asm_by (Some source) (Some output) None c e = cc
asm_by (Some source) None little c e = cc
asm_by None output little c e = cc

asm_small : (words little : List Text) (c : Command) → asm_with words little ≡ Some c → IsSmall c
asm_small (source ∷ output ∷ []) little c e = asm_by (file_in source) (file_in output) (is_raised little) c e
asm_small (source ∷ output ∷ more ∷ others) little c e = cc
asm_small (source ∷ []) little c e = cc
asm_small [] little c e = cc

dis_by : (image : Option Text) (c : Command) → option_map (λ image. Dis image) image ≡ Some c → IsSmall c
dis_by (Some image) c e = subst IsSmall (same_Some _ _ e) (record { cycles = omega arith })
dis_by None c e = cc

dis_small : (words : List Text) (c : Command) → dis_with words ≡ Some c → IsSmall c
dis_small (image ∷ []) c e = dis_by (file_in image) c e
dis_small (image ∷ more ∷ others) c e = cc
dis_small [] c e = cc

demo_by : (number : Option ℕ) (c : Command) → option_map Demo number ≡ Some c → IsSmall c
demo_by (Some number) c e = subst IsSmall (same_Some _ _ e) (record { cycles = omega arith })
demo_by None c e = cc

demo_small : (words : List Text) (c : Command) → demo_with words ≡ Some c → IsSmall c
demo_small (number ∷ []) c e = demo_by (number_in most_number number) c e
demo_small (number ∷ more ∷ others) c e = cc
demo_small [] c e = cc

-- the command of the first word that fits
by_word : (fits : Bool) (a b : Option Command) (c : Command) → (a ≡ Some c → IsSmall c) → (b ≡ Some c → IsSmall c) → cond fits a b ≡ Some c → IsSmall c
by_word true a b c p q e = p e
by_word false a b c p q e = q e

pub command_small : (words : List Text) (c : Command) → command_of words ≡ Some c → IsSmall c
unfolding command_of raw_form run_form asm_form dis_form demo_form board_form
command_small [] c e = cc
command_small (word ∷ words) c e =
    by_word (bytes_eq word (codes "raw")) _ _ c (said_small raw_form (λ ws vs c e. raw_small ws c e) (parts [] None words) c)
    (by_word (bytes_eq word (codes "run")) _ _ c (said_small run_form (λ ws vs c e. run_small ws (vs (codes "cycles")) (vs (codes "journal")) (vs (codes "write-journal")) c e) (parts [] None words) c)
    (by_word (bytes_eq word (codes "asm")) _ _ c (said_small asm_form (λ ws vs c e. asm_small ws (vs (codes "little")) c e) (parts (codes "little" ∷ []) None words) c)
    (by_word (bytes_eq word (codes "dis")) _ _ c (said_small dis_form (λ ws vs c e. dis_small ws c e) (parts [] None words) c)
    (by_word (bytes_eq word (codes "demo")) _ _ c (said_small demo_form (λ ws vs c e. demo_small ws c e) (parts [] None words) c)
    (by_word (bytes_eq word (codes "profile")) _ _ c (said_small (board_form on_board.Profile) (λ ws vs c e. board_small on_board.Profile ws (vs (codes "cycles")) (vs (codes "journal")) c e) (parts [] None words) c)
    (by_word (bytes_eq word (codes "debug")) _ None c (said_small (board_form on_board.Debug) (λ ws vs c e. board_small on_board.Debug ws (vs (codes "cycles")) (vs (codes "journal")) c e) (parts [] None words) c) (λ e. cc)))))))
    e
