-- How a buffer and its appends make up the writing of a file.
use Rattle.std.proofs.Common.{◌≡◌, ℕ, List, [], ◌++◌, Result, Ok, Err, sym, ap, subst, ◌∙◌, append_assoc}
use Rattle.std.specs.Prelude.{⊤}
use Rattle.host_io.specs.declared.faults.StoreFault.{StoreFault}
use Rattle.host_io.specs.Outside.{ShelfState, Appends}
use Rattle.piece_output.specs.Stored.{Wrote, IsWriting}
use Rattle.piece_output.proofs.Written.{all_sent, failed_longer, send_failed}

-- more bytes stand in the buffer
pub kept : (old now : ShelfState) (name buffer bytes more : List ℕ) → IsWriting old now name buffer bytes
    → IsWriting old now name (buffer ++ more) (bytes ++ more)
kept old now name buffer bytes more w =
    record {
      sent = w.sent;
      all = ap (λ xs. xs ++ more) w.all ∙ append_assoc w.sent buffer more;
      wrote = w.wrote;
    }

-- whatever an append of the whole buffer answers
pub sent_either : (old mid new : ShelfState) (name buffer bytes : List ℕ) (result : Result ⊤ StoreFault) → IsWriting old mid name buffer bytes
    → Appends mid new name buffer result → Wrote old new name bytes result
sent_either old mid new name buffer bytes (Ok done) w h = all_sent old mid new name buffer bytes w h
sent_either old mid new name buffer bytes (Err fault) w h = send_failed old mid new name buffer bytes fault w h

-- bytes of which the first filled the buffer, which was sent
pub added : (old mid new : ShelfState) (name buffer full empty now bytes more front behind : List ℕ)
    → full ≡ buffer ++ front → more ≡ front ++ behind → empty ≡ [] → now ≡ empty ++ behind
    → IsWriting old mid name buffer bytes → Appends mid new name full (Ok tt) → IsWriting old new name now (bytes ++ more)
added old mid new name buffer full empty now bytes more front behind filled split emptied held w h =
    let P : List ℕ → Type 0 = λ xs. IsWriting old mid name xs (bytes ++ front) in
    let f : IsWriting old mid name full (bytes ++ front) = subst P (sym filled) (kept old mid name buffer bytes front w) in
    record {
      sent = bytes ++ front;
      all = ap (λ xs. bytes ++ xs) split ∙ sym (append_assoc bytes front behind)
          ∙ ap (λ xs. (bytes ++ front) ++ xs) (sym (held ∙ ap (λ xs. xs ++ behind) emptied));
      wrote = all_sent old mid new name full (bytes ++ front) f h;
    }

-- bytes of which the first filled the buffer, whose sending failed
pub add_failed : (old mid new : ShelfState) (name buffer full bytes more front behind : List ℕ) (fault : StoreFault)
    → full ≡ buffer ++ front → more ≡ front ++ behind → IsWriting old mid name buffer bytes → Appends mid new name full (Err fault)
    → Wrote old new name (bytes ++ more) (Err fault)
add_failed old mid new name buffer full bytes more front behind fault filled split w h =
    let P : List ℕ → Type 0 = λ xs. IsWriting old mid name xs (bytes ++ front) in
    let Q : List ℕ → Type 0 = λ xs. Wrote old new name xs (Err fault) in
    let f : IsWriting old mid name full (bytes ++ front) = subst P (sym filled) (kept old mid name buffer bytes front w) in
    subst Q (append_assoc bytes front behind ∙ ap (λ xs. bytes ++ xs) (sym split))
    (failed_longer old new name (bytes ++ front) behind fault (send_failed old mid new name full (bytes ++ front) fault f h))
