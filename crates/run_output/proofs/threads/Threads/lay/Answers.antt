use Rattle.std.proofs.Common.{length, refl, ap, drop, ◌∙◌, arith, get_or, ◌-◌, ◌+◌}
use Rattle.run_output.specs.Threads.{Threaded}
use Rattle.run_output.proofs.Threading.{lie_so, no_entry, one_more, threaded_next, threaded_room, through_links, through_uarts}
use Rattle.run_output.proofs.threads.Threads.lay.Goals as goal

pub loop-count-preserved : goal.loop-count-preserved
loop-count-preserved c =
    let what = (get_or c.args.entries.now (length c.args.entries.now - 1 - c.loop-count.count) no_entry).what in
    record {
      few = ap (λ (t : Threaded). length t.next) c.thread.ensures ∙ threaded_next what c.loop-count.self ∙ ap (λ n. n + 1) c.loop-count.invariant.few;
      room = ap (λ (t : Threaded). t.room) c.thread.ensures ∙ threaded_room what c.loop-count.self ∙ c.loop-count.invariant.room;
      threads = one_more c.args.self.now c.loop-count.self c.thread.new.self c.args.entries.now c.loop-count.count what
          (omega (arith, c.loop-count-test.true, c.fewer-most.ensures.first)) refl c.loop-count.invariant.threads c.thread.ensures;
    }

pub returns-clause-lie : goal.returns-clause-lie
returns-clause-lie c =
    lie_so c.args.self.now c.loop-count.self c.args.entries.now c.loop-count.count c.loop-count.invariant.few
    (omega (arith, c.loop-count.auto.count-end, c.fewer-most.ensures.first)) c.loop-count.invariant.threads

pub returns-clause-links : goal.returns-clause-links
returns-clause-links c = ap (λ (t : Threaded). length t.links) c.loop-count.invariant.threads
    ∙ through_links c.args.self.now (drop (length c.args.entries.now - c.loop-count.count) c.args.entries.now)

pub returns-clause-uarts : goal.returns-clause-uarts
returns-clause-uarts c = ap (λ (t : Threaded). length t.uarts) c.loop-count.invariant.threads
    ∙ through_uarts c.args.self.now (drop (length c.args.entries.now - c.loop-count.count) c.args.entries.now)
