-- A look-up among files, and what a change of one file does to it.
use Rattle.std.proofs.Common.{◌≡◌, ◌≢◌, ℕ, zero, suc, ◌<◌, true, false, List, [], ◌∷◌, ◌++◌, length, get_or, set, Some, None, refl, sym, ap, subst, ◌∙◌, arith, cond}
use Rattle.std.specs.Str.{bytes_eq}
use Rattle.std.proofs.lemmas.Slice.Eq.{bytes_eq-Decides}
use Rattle.std.proofs.lemmas.Bool.{false_from_ne_true}
use Rattle.host_io.specs.declared.files.MemFile.{MemFile}
use Rattle.host_io.specs.Outside.{ChangesFile, SameFiles}
use Rattle.host_io.specs.MemFiles.{lookup, IsFirst, IsAbsent}

same_name : (a b : List ℕ) → a ≡ b → bytes_eq a b ≡ true
same_name a b e = (bytes_eq-Decides a b).1 e

other_name : (a b : List ℕ) → a ≢ b → bytes_eq a b ≡ false
other_name a b ne = false_from_ne_true _ (λ h. ne ((bytes_eq-Decides a b).0 h))

passed_over : (file : MemFile) (files : List MemFile) (name : List ℕ) → file.name ≢ name → lookup (file ∷ files) name ≡ lookup files name
passed_over file files name ne = rw (other_name file.name name ne) refl

taken : (file : MemFile) (files : List MemFile) (name : List ℕ) → file.name ≡ name → lookup (file ∷ files) name ≡ Some file.bytes.items
taken file files name e = rw (same_name file.name name e) refl

pub lookup_absent : (files : List MemFile) (name : List ℕ) → IsAbsent files name → lookup files name ≡ None
lookup_absent [] name absent = refl
lookup_absent (file ∷ files) name absent =
    passed_over file files name (absent 0 file (omega arith))
    ∙ lookup_absent files name (λ k d h. absent (suc k) d (omega arith))

pub lookup_first : (files : List MemFile) (name : List ℕ) (place : ℕ) (d : MemFile) → IsFirst files name place → lookup files name ≡ Some (get_or files place d).bytes.items
lookup_first [] name place d first = absurd (omega (arith, first.within))
lookup_first (file ∷ files) name zero d first = taken file files name (first.named d)
lookup_first (file ∷ files) name (suc place) d first =
    passed_over file files name (first.before 0 file (omega arith))
    ∙ lookup_first files name place d
    (record {
      within = (let h : suc place < length (file ∷ files) = first.within in omega arith);
      named = first.named;
      before = λ k e h. first.before (suc k) e (omega arith);
    })

lookup_changed : (files : List MemFile) (name : List ℕ) (place : ℕ) (file : MemFile) → IsFirst files name place → file.name ≡ name → lookup (set files place file) name ≡ Some file.bytes.items
lookup_changed [] name place file first same = absurd (omega (arith, first.within))
lookup_changed (f ∷ files) name zero file first same = taken file files name same
lookup_changed (f ∷ files) name (suc place) file first same =
    passed_over f (set files place file) name (first.before 0 f (omega arith))
    ∙ lookup_changed files name place file
    (record {
      within = (let h : suc place < length (f ∷ files) = first.within in omega arith);
      named = first.named;
      before = λ k e h. first.before (suc k) e (omega arith);
    })
    same

lookup_other : (files : List MemFile) (place : ℕ) (file : MemFile) (other : List ℕ) → file.name ≢ other → (place < length files → (get_or files place file).name ≢ other) → lookup (set files place file) other ≡ lookup files other
lookup_other [] place file other new old = refl
lookup_other (f ∷ files) zero file other new old =
    passed_over file files other new ∙ sym (passed_over f files other (old (omega arith)))
lookup_other (f ∷ files) (suc place) file other new old =
    ap (cond (bytes_eq f.name other) (Some f.bytes.items)) (lookup_other files place file other new (λ h. old (omega arith)))

-- one file's content changed, where the code sees the files as a slice
pub changes_content : (slice files : List MemFile) (name content : List ℕ) (place : ℕ) (old file : MemFile) → slice ≡ files → IsFirst slice name place
    → old ≡ get_or files place old → file.name ≡ old.name → file.bytes.items ≡ content
    → ChangesFile (lookup files) (lookup (set files place file)) name content
changes_content slice files name content place old file seen first at kept holds =
    let Q : List MemFile → Type 0 = λ xs. IsFirst xs name place in
    let found : IsFirst files name place = subst Q seen first in
    let same : file.name ≡ name = kept ∙ ap (λ f. f.name) at ∙ found.named old in
    record {
      changed = lookup_changed files name place file found same ∙ ap Some holds;
      others = λ other ne. lookup_other files place file other (λ e. ne (sym e ∙ same)) (λ h e. ne (sym e ∙ found.named file));
    }

pub finds_content : (slice files : List MemFile) (name : List ℕ) (place : ℕ) (old : MemFile) → slice ≡ files → IsFirst slice name place
    → old ≡ get_or files place old → lookup files name ≡ Some old.bytes.items
finds_content slice files name place old seen first at =
    let Q : List MemFile → Type 0 = λ xs. IsFirst xs name place in
    lookup_first files name place old (subst Q seen first) ∙ ap (λ f. Some f.bytes.items) (sym at)

-- a file in whose place one with the same name and content stands
pub keeps_contents : (files : List MemFile) (place : ℕ) (old file : MemFile) → old ≡ get_or files place old → file.name ≡ old.name → file.bytes.items ≡ old.bytes.items
    → SameFiles (lookup files) (lookup (set files place file))
keeps_contents [] place old file at named holds name = refl
keeps_contents (f ∷ files) zero old file at named holds name =
    ap (λ text. cond (bytes_eq text name) (Some file.bytes.items) (lookup files name)) (named ∙ ap (λ g. g.name) at)
    ∙ ap (λ bytes. cond (bytes_eq f.name name) (Some bytes) (lookup files name)) (holds ∙ ap (λ g. g.bytes.items) at)
keeps_contents (f ∷ files) (suc place) old file at named holds name =
    ap (cond (bytes_eq f.name name) (Some f.bytes.items)) (keeps_contents files place old file at named holds name)

pub lookup_pushed : (files : List MemFile) (file : MemFile) (name : List ℕ) → IsAbsent files name → file.name ≡ name → lookup (files ++ file ∷ []) name ≡ Some file.bytes.items
lookup_pushed [] file name absent same = taken file [] name same
lookup_pushed (f ∷ files) file name absent same =
    passed_over f (files ++ file ∷ []) name (absent 0 f (omega arith))
    ∙ lookup_pushed files file name (λ k d h. absent (suc k) d (omega arith)) same

lookup_pushed_other : (files : List MemFile) (file : MemFile) (other : List ℕ) → file.name ≢ other → lookup (files ++ file ∷ []) other ≡ lookup files other
lookup_pushed_other [] file other ne = passed_over file [] other ne
lookup_pushed_other (f ∷ files) file other ne =
    ap (cond (bytes_eq f.name other) (Some f.bytes.items)) (lookup_pushed_other files file other ne)

-- a file of a new name came
pub gains_file : (slice files new : List MemFile) (name content : List ℕ) (file : MemFile) → slice ≡ files → IsAbsent slice name → file.name ≡ name
    → file.bytes.items ≡ content → new ≡ files ++ file ∷ [] → ChangesFile (lookup files) (lookup new) name content
gains_file slice files new name content file seen away same holds pushed =
    let Q : List MemFile → Type 0 = λ xs. IsAbsent xs name in
    let absent : IsAbsent files name = subst Q seen away in
    record {
      changed = ap (λ xs. lookup xs name) pushed ∙ lookup_pushed files file name absent same ∙ ap Some holds;
      others = λ other ne. ap (λ xs. lookup xs other) pushed ∙ lookup_pushed_other files file other (λ e. ne (sym e ∙ same));
    }

pub misses : (slice files : List MemFile) (name : List ℕ) → slice ≡ files → IsAbsent slice name → lookup files name ≡ None
misses slice files name seen away = let Q : List MemFile → Type 0 = λ xs. IsAbsent xs name in lookup_absent files name (subst Q seen away)
