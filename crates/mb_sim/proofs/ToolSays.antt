-- From the answers of `asm` and `dis` to their statuses.
use Rattle.std.proofs.Common.{◌≡◌, ℕ, List, Bool, Option, Some, Result, Ok, Err, inl, inr, ap, refl, subst, sym}
use Rattle.std.specs.Prelude.{⊤}
use Rattle.command_line.specs.declared.command.Command.{Command}
use Rattle.command_line.specs.declared.command.Command.TheVariants.{Asm, Dis}
use Rattle.host_io.specs.Outside.{ShelfState, SinkState}
use Rattle.source_tools.proofs.AsmComplete.{asm_complete}
use Rattle.source_tools.proofs.DisComplete.{dis_complete}
use Rattle.source_tools.specs.Complete.{IsDone, IsRefusedBy}
use Rattle.source_tools.specs.declared.refusal.Refusal.{Refusal}
use Rattle.source_tools.specs.declared.refusal.Refusal.TheVariants as refusal
use Rattle.probe_set.specs.Sets.{Named}
use Rattle.mb_sim.specs.Tools.{SaysAssembled, SaysListed, order_of, status_of_tool}
use Rattle.mb_sim.specs.Top.{Answers, IsAnswer}
use Rattle.mb_sim.specs.ToolStatus.{AsmIsExact, DisIsExact}
use Rattle.mb_sim.specs.declared.status.Status.{Status}
use Rattle.mb_sim.specs.declared.status.Status.TheVariants.{Ended}

done_by : (answer : Result ⊤ Refusal) → IsDone answer → IsAnswer Ended (status_of_tool answer)
done_by (Ok done) h = inl refl
done_by (Err (refusal.CannotRead file)) h = absurd h
done_by (Err (refusal.TooLong file)) h = absurd h
done_by (Err (refusal.BadSource code line column)) h = absurd h
done_by (Err (refusal.BadImage code at)) h = absurd h
done_by (Err (refusal.CannotWrite file)) h = absurd h
done_by (Err refusal.NoMemory) h = inr refl

refused_by : (cause : Refusal) (answer : Result ⊤ Refusal) → IsRefusedBy cause answer → IsAnswer (status_of_tool (Err cause)) (status_of_tool answer)
refused_by cause answer (inl e) = inl (ap status_of_tool e)
refused_by cause answer (inr e) = inr (ap status_of_tool e)

asm_exact : (source output : List ℕ) (is_little : Bool) (old new : ShelfState) (out out' : SinkState) (s : Status) → SaysAssembled source output is_little old new out out' s
    → AsmIsExact source is_little old new s
asm_exact source output is_little old new out out' s h =
    let order = order_of is_little in
    subst (AsmIsExact source is_little old new) (sym h.told) (record {
      done = λ bytes a fair small is. done_by h.answer (asm_complete.done order source output bytes old new a h.answer h.says fair small is);
      faults = λ bytes code line column fair small bad. refused_by (refusal.BadSource code line column) h.answer (asm_complete.faults order source output bytes old new code line column h.answer h.says fair small bad);
      lengths = λ bytes fair long. refused_by (refusal.TooLong source) h.answer (asm_complete.lengths order source output bytes old new h.answer h.says fair long);
    })

dis_exact : (image : List ℕ) (old new : ShelfState) (out out' : SinkState) (s : Status) → SaysListed image old new out out' s → DisIsExact image old new out out' s
dis_exact image old new out out' s h =
    subst (DisIsExact image old new out out') (sym h.told) (record {
      done = λ bytes i fair small is. done_by h.answer (dis_complete.done image bytes old new out out' i h.answer h.says fair small is);
      faults = λ bytes code at fair small bad. refused_by (refusal.BadImage code at) h.answer (dis_complete.faults image bytes old new out out' code at h.answer h.says fair small bad);
      lengths = λ bytes fair long. refused_by (refusal.TooLong image) h.answer (dis_complete.lengths image bytes old new out out' h.answer h.says fair long);
    })

pub assembles : (o : Option Command) (source output : List ℕ) (is_little : Bool) (old new : ShelfState) (out out' : SinkState) (probes probes' : List Named) (s : Status) → Answers o old new out out' probes probes' s
    → o ≡ Some (Asm source output is_little) → AsmIsExact source is_little old new s
assembles o source output is_little old new out out' probes probes' s says is =
    let P : Option Command → Type 0 = λ o. Answers o old new out out' probes probes' s in
    asm_exact source output is_little old new out out' s (subst P is says).0

pub lists : (o : Option Command) (image : List ℕ) (old new : ShelfState) (out out' : SinkState) (probes probes' : List Named) (s : Status) → Answers o old new out out' probes probes' s → o ≡ Some (Dis image) → DisIsExact image old new out out' s
lists o image old new out out' probes probes' s says is =
    let P : Option Command → Type 0 = λ o. Answers o old new out out' probes probes' s in
    dis_exact image old new out out' s (subst P is says).0
