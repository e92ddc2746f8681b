use Rattle.std.proofs.Common.{◌≡◌, ℕ, ◌+◌, ◌-◌, ◌≤◌, min, ◌++◌, length, take, ap, ◌∙◌, arith}
use Rattle.std.proofs.lemmas.List.{length-append, length-take}
use Rattle.std.proofs.KnownBytes.{Consumes-trans}
use Rattle.host_io.proofs.streams.read_whole.Goals as goal

-- a piece is no longer than what is missed up to the limit, and one byte
within : (count buffer limit len room size chunk whole : ℕ) → whole ≡ size + min count buffer → count ≤ buffer → buffer ≡ min (room + 1) chunk
    → room ≡ min (limit - len) 65535 → len ≡ size → len ≤ limit → whole ≤ limit + 1
within count buffer limit len room size chunk whole is few piece small at below = omega (arith, is, few, piece, small, at, below)

-- what was read last is taken too, though there is no memory to keep it
pub returns-in_err-extend_from_slice-clause-taken : goal.returns-in_err-extend_from_slice-clause-taken
returns-in_err-extend_from_slice-clause-taken g c =
    let before = c.loop-chunk.bytes.items in
    let last = take c.in_ok-count.count c.read.new.buffer in (
      before ++ last,
      within _ _ _ _ _ _ _ _ (length-append before last ∙ ap (λ n. length before + n) (length-take c.in_ok-count.count c.read.new.buffer)) c.in_ok-count.ensures.answer.2
          (c.read.auto.buffer ∙ length-take (c.min-room.result + 1) c.loop-chunk.chunk) c.min-room.ensures (c.len-in-loop-chunk.ensures ∙ c.loop-chunk.bytes.ok.0) (omega (arith, c.len.ensures, c.len-in-loop-chunk.ensures, c.loop-chunk-test.true)),
      Consumes-trans _ _ _ before last c.loop-chunk.invariant.0 c.in_ok-count.ensures.answer.0,
    )
