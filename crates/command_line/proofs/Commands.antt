-- What the words of a command mean, by clap's faults and matches.
use Rattle.std.proofs.Common.{◌≡◌, ◌∙◌, ◌++◌, Bool, true, false, codes, refl, sym, ap, arith, drop, if◌then◌else◌, List, [], ◌∷◌, Option, Some, None, Result, Ok, Err, option_map}
use Rattle.std.proofs.lemmas.List.{append-nil}
use Rattle.std.specs.Option.{ok_or, option_map_or, option_to_list}
use Rattle.std.specs.Result.{IsErrAnd}
use Rattle.std.specs.Borrow.{Bor}
use Rattle.std.specs.Str.{bytes_eq}
use Rattle.clap.specs.Faults.{fault_of}
use Rattle.clap.specs.Kinds.{Kinds}
use Rattle.clap.specs.Simple.{App, Shape}
use Rattle.clap.specs.Walk.{Row, first_of}
use Rattle.clap.specs.Words.{matches_of}
use Rattle.command_line.specs.Splits.{IsAsmSplit, IsBoardSplit, IsDemoSplit, IsDisSplit, IsRawSplit, IsRunSplit, asm_app, board_app, demo_app, dis_app, faults, raw_app, run_app, value_of}
use Rattle.command_line.specs.Words.{Answers, Form, Text, asm_form, asm_with, board_form, board_with, demo_form, demo_with, dis_form, dis_with, is_raised, meant, raised_value, raw_form, raw_with, run_form, run_with}
use Rattle.command_line.specs.declared.command.BoardCommand.{BoardCommand}
use Rattle.command_line.specs.declared.command.Command.{Command}
use Rattle.command_line.specs.declared.command.WordsFault.{WordsFault}
use Rattle.command_line.specs.declared.command.WordsFault.TheVariants.{NoMemory, Usage}
use Rattle.command_line.specs.declared.split.AsmWords.{AsmWords}
use Rattle.command_line.specs.declared.split.BoardWords.{BoardWords}
use Rattle.command_line.specs.declared.split.DemoWords.{DemoWords}
use Rattle.command_line.specs.declared.split.DisWords.{DisWords}
use Rattle.command_line.specs.declared.split.RawWords.{RawWords}
use Rattle.command_line.specs.declared.split.RunWords.{RunWords}
use Rattle.command_line.proofs.AsmTable.{asm_is, asm_top, ended, order_is, placed_is, with_order}
use Rattle.command_line.proofs.BoardTable.{board_defaults, board_is, board_options, board_top}
use Rattle.command_line.proofs.DemoTable.{demo_defaults, demo_is, demo_top}
use Rattle.command_line.proofs.DisTable.{dis_defaults, dis_is, dis_top}
use Rattle.command_line.proofs.Law.{IsPlainApp, law, no_default_rows, rows_in}
use Rattle.command_line.proofs.Meanings.{IsSound, judged, reading_means, text_of, texts_at}
use Rattle.command_line.proofs.RawTable.{raw_defaults, raw_is, raw_top}
use Rattle.command_line.proofs.Rows.{Answer}
use Rattle.command_line.proofs.RunTable.{run_defaults, run_is, run_options, run_top}
use Rattle.command_line.proofs.Sounds.{asm_sound, board_sound, demo_sound, dis_sound, raw_sound, run_sound}
use Rattle.command_line.proofs.Walks.{Agrees}

-- ---- any command

none_read : (form : Form) (ps : List Text) (ks : Kinds) (rows : List Row) (a : Answer) → Agrees ks rows a → (ks ≡ [] → ⊥) → judged form ps a ≡ None
none_read form ps [] rows a h some = absurd (some refl)
none_read form ps (k ∷ ks) rows a h some = ap (judged form ps) h

rows_read : (form : Form) (ps : List Text) (ks : Kinds) (rows : List Row) (a : Answer) → Agrees ks rows a → ks ≡ [] → judged form ps a ≡ form.meaning (texts_at rows ps) (text_of rows)
rows_read form ps [] rows a h none = ap (judged form ps) h.1
rows_read form ps (k ∷ ks) rows a h none = absurd (some k ks none)
  where
    some : {X : Type 0} (k : X) (ks : List X) → k ∷ ks ≡ [] → ⊥
    some k ks e = let bad : k ∷ ks ≡ [] = e in grind arith

refused : (app : App) (top : Shape) (form : Form) (ps : List Text) → IsPlainApp app top form.options form.flags ps → IsSound form ps → (words : List Text)
    → (fault_of app words ≡ [] → ⊥) → meant form (drop 1 words) ≡ None
refused app top form ps p s words some =
    sym (reading_means form ps s (drop 1 words)) ∙ none_read form ps _ _ _ (law app top form.options form.flags ps p words) some

taken : (app : App) (top : Shape) (form : Form) (ps : List Text) → IsPlainApp app top form.options form.flags ps → IsSound form ps → (words : List Text)
    → fault_of app words ≡ [] → meant form (drop 1 words) ≡ form.meaning (texts_at (rows_in top words) ps) (text_of (rows_in top words))
taken app top form ps p s words none =
    sym (reading_means form ps s (drop 1 words)) ∙ rows_read form ps _ _ _ (law app top form.options form.flags ps p words) none

-- ---- the commands

abbrev given : Option (Bor Text) → List Text
given o = option_to_list (option_map (λ w. w.now) o)

abbrev raw_places : List Text
raw_places = codes "FILE" ∷ codes "CYCLES" ∷ []

abbrev run_places : List Text
run_places = codes "BOARD" ∷ []

abbrev asm_places : List Text
asm_places = codes "SOURCE" ∷ codes "OUTPUT" ∷ []

abbrev dis_places : List Text
dis_places = codes "IMAGE" ∷ []

abbrev demo_places : List Text
demo_places = codes "N" ∷ []

abbrev board_places : List Text
board_places = codes "BOARD" ∷ []

pub raw_refused : (words : List Text) → (faults raw_app words ≡ [] → ⊥) → meant raw_form (drop 1 words) ≡ None
unfolding faults raw_form
raw_refused words some = refused raw_app raw_top raw_form raw_places raw_is raw_sound words some

pub run_refused : (words : List Text) → (faults run_app words ≡ [] → ⊥) → meant run_form (drop 1 words) ≡ None
unfolding faults run_form
run_refused words some = refused run_app run_top run_form run_places run_is run_sound words some

pub asm_refused : (words : List Text) → (faults asm_app words ≡ [] → ⊥) → meant asm_form (drop 1 words) ≡ None
unfolding faults asm_form
asm_refused words some = refused asm_app asm_top asm_form asm_places asm_is asm_sound words some

pub dis_refused : (words : List Text) → (faults dis_app words ≡ [] → ⊥) → meant dis_form (drop 1 words) ≡ None
unfolding faults dis_form
dis_refused words some = refused dis_app dis_top dis_form dis_places dis_is dis_sound words some

pub demo_refused : (words : List Text) → (faults demo_app words ≡ [] → ⊥) → meant demo_form (drop 1 words) ≡ None
unfolding faults demo_form
demo_refused words some = refused demo_app demo_top demo_form demo_places demo_is demo_sound words some

pub board_refused : (kind : BoardCommand) (words : List Text) → (faults board_app words ≡ [] → ⊥) → meant (board_form kind) (drop 1 words) ≡ None
unfolding faults board_form
board_refused kind words some = refused board_app board_top (board_form kind) board_places board_is (board_sound kind) words some

two : (a b c d : List Text) → a ≡ c → b ≡ d → raw_with (a ++ (b ++ [])) ≡ raw_with (c ++ d)
two a b c d p q = rw (append-nil b, p, q) refl

pub raw_means : (words : List Text) (split : RawWords) → IsRawSplit words split → meant raw_form (drop 1 words) ≡ raw_with (given split.file ++ given split.cycles)
unfolding faults raw_form value_of
raw_means words split s =
    let rows = no_default_rows raw_app raw_top [] [] raw_places raw_is raw_defaults words in
    taken raw_app raw_top raw_form raw_places raw_is raw_sound words s.taken
    ∙ two _ _ _ _ (ap (λ rs. text_of rs (codes "FILE")) rows ∙ ap option_to_list (sym s.file)) (ap (λ rs. text_of rs (codes "CYCLES")) rows ∙ ap option_to_list (sym s.cycles))

four : (a b c d e f g h : List Text) → a ≡ e → b ≡ f → c ≡ g → d ≡ h → run_with (a ++ []) b c d ≡ run_with e f g h
four a b c d e f g h p q r s = rw (append-nil a, p, q, r, s) refl

pub run_means : (words : List Text) (split : RunWords) → IsRunSplit words split
    → meant run_form (drop 1 words) ≡ run_with (given split.board) (given split.cycles) (given split.journal) (given split.write_journal)
unfolding faults run_form value_of
run_means words split s =
    let rows = no_default_rows run_app run_top run_options [] run_places run_is run_defaults words in
    taken run_app run_top run_form run_places run_is run_sound words s.taken
    ∙ four _ _ _ _ _ _ _ _ (ap (λ rs. text_of rs (codes "BOARD")) rows ∙ ap option_to_list (sym s.board)) (ap (λ rs. text_of rs (codes "cycles")) rows ∙ ap option_to_list (sym s.cycles))
    (ap (λ rs. text_of rs (codes "journal")) rows ∙ ap option_to_list (sym s.journal)) (ap (λ rs. text_of rs (codes "write-journal")) rows ∙ ap option_to_list (sym s.write_journal))

asm_same : (xs l m : List Text) → is_raised l ≡ is_raised m → asm_with xs l ≡ asm_with xs m
asm_same [] l m e = refl
asm_same (a ∷ []) l m e = refl
asm_same (a ∷ b ∷ []) l m e = rw e refl
asm_same (a ∷ b ∷ c ∷ xs) l m e = refl

both : (a b c d l m : List Text) → a ≡ c → b ≡ d → is_raised l ≡ is_raised m → asm_with (a ++ (b ++ [])) l ≡ asm_with (c ++ d) m
both a b c d l m p q r = rw (append-nil b, p, q) (asm_same (c ++ d) l m r)

raised_is : (b : Bool) → Some b ≡ is_raised (if b then raised_value ∷ [] else [])
raised_is true = refl
raised_is false = refl

pub asm_means : (words : List Text) (split : AsmWords) → IsAsmSplit words split
    → meant asm_form (drop 1 words) ≡ asm_with (given split.source ++ given split.output) (if split.is_little then raised_value ∷ [] else [])
unfolding faults asm_form value_of
asm_means words split s =
    let rows = rows_in asm_top words in
    let all : matches_of asm_app words ≡ with_order rows = asm_is.rows words ∙ ended rows in
    let source : first_of (codes "SOURCE") rows ≡ option_map (λ w. w.now) split.source =
    sym (placed_is (codes "SOURCE") rows refl) ∙ ap (first_of (codes "SOURCE")) (sym all) ∙ sym s.source in
    let output : first_of (codes "OUTPUT") rows ≡ option_map (λ w. w.now) split.output =
    sym (placed_is (codes "OUTPUT") rows refl) ∙ ap (first_of (codes "OUTPUT")) (sym all) ∙ sym s.output in
    let little : split.is_little ≡ option_map_or (λ text. bytes_eq text raised_value) (first_of (codes "little") (with_order rows)) false =
    s.little ∙ ap (λ rs. option_map_or (λ text. bytes_eq text raised_value) (first_of (codes "little") rs) false) all in
    taken asm_app asm_top asm_form asm_places asm_is asm_sound words s.taken
    ∙ both _ _ _ _ (text_of rows (codes "little")) (if split.is_little then raised_value ∷ [] else []) (ap option_to_list source) (ap option_to_list output)
    (order_is rows ∙ ap Some (sym little) ∙ raised_is split.is_little)

one : (a b : List Text) → a ≡ b → dis_with (a ++ []) ≡ dis_with b
one a b p = rw (append-nil a, p) refl

pub dis_means : (words : List Text) (split : DisWords) → IsDisSplit words split → meant dis_form (drop 1 words) ≡ dis_with (given split.image)
unfolding faults dis_form value_of
dis_means words split s =
    let rows = no_default_rows dis_app dis_top [] [] dis_places dis_is dis_defaults words in
    taken dis_app dis_top dis_form dis_places dis_is dis_sound words s.taken ∙ one _ _ (ap (λ rs. text_of rs (codes "IMAGE")) rows ∙ ap option_to_list (sym s.image))

sole : (a b : List Text) → a ≡ b → demo_with (a ++ []) ≡ demo_with b
sole a b p = rw (append-nil a, p) refl

pub demo_means : (words : List Text) (split : DemoWords) → IsDemoSplit words split → meant demo_form (drop 1 words) ≡ demo_with (given split.number)
unfolding faults demo_form value_of
demo_means words split s =
    let rows = no_default_rows demo_app demo_top [] [] demo_places demo_is demo_defaults words in
    taken demo_app demo_top demo_form demo_places demo_is demo_sound words s.taken ∙ sole _ _ (ap (λ rs. text_of rs (codes "N")) rows ∙ ap option_to_list (sym s.number))

triple : (kind : BoardCommand) (a b c d e f : List Text) → a ≡ d → b ≡ e → c ≡ f → board_with kind (a ++ []) b c ≡ board_with kind d e f
triple kind a b c d e f p q r = rw (append-nil a, p, q, r) refl

pub board_means : (kind : BoardCommand) (words : List Text) (split : BoardWords) → IsBoardSplit words split
    → meant (board_form kind) (drop 1 words) ≡ board_with kind (given split.board) (given split.cycles) (given split.journal)
unfolding faults board_form value_of
board_means kind words split s =
    let rows = no_default_rows board_app board_top board_options [] board_places board_is board_defaults words in
    taken board_app board_top (board_form kind) board_places board_is (board_sound kind) words s.taken
    ∙ triple kind _ _ _ _ _ _ (ap (λ rs. text_of rs (codes "BOARD")) rows ∙ ap option_to_list (sym s.board)) (ap (λ rs. text_of rs (codes "cycles")) rows ∙ ap option_to_list (sym s.cycles))
    (ap (λ rs. text_of rs (codes "journal")) rows ∙ ap option_to_list (sym s.journal))

-- ---- the answers

pub answers_fault : (meaning : Option Command) (r : Result Command WordsFault) (e : WordsFault) → IsErrAnd r (λ y. y ≡ e) → (e ≡ Usage → meaning ≡ None) → Answers meaning r
answers_fault meaning (Ok c) e is none = absurd is
answers_fault meaning (Err Usage) e is none = none (sym is)
answers_fault meaning (Err NoMemory) e is none = tt

pub answers_meaning : (meaning found : Option Command) (r : Result Command WordsFault) → r ≡ ok_or found Usage → meaning ≡ found → Answers meaning r
answers_meaning meaning None r is same = rw is same
answers_meaning meaning (Some c) r is same = rw is same
