use Rattle.std.proofs.Common.{◌≡◌, take}
use Rattle.ring_demo.specs.Programs.{image_of}
use Rattle.ring_demo.proofs.program.image_of.Given as goal

abbrev pub invariant-loop-word : goal.invariant-loop-word
invariant-loop-word l = l.image.items ≡ image_of (take l.word-index l.words)
