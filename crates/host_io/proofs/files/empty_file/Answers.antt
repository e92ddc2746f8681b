use Rattle.std.proofs.Common.{refl}
use Rattle.host_io.proofs.Lookups.{changes_content, gains_file}
use Rattle.host_io.proofs.files.empty_file.Goals as goal

pub returns-in-Some-clause-ok : goal.returns-in-Some-clause-ok
returns-in-Some-clause-ok c =
    changes_content c.deref.result.now c.args.files.now.items c.args.name.now _ c.in-Some.place c.index_mut-file.result.now
    (record { name = c.index_mut-file.result.now.name; bytes = c.clear.new.self })
    c.deref.ensures.value c.in-Some.ensures.found c.index_mut-file.ensures.value refl c.clear.ensures.items

pub returns-in_ok-push-in-None-clause-ok : goal.returns-in_ok-push-in-None-clause-ok
returns-in_ok-push-in-None-clause-ok c =
    gains_file c.deref.result.now c.args.files.now.items c.push.new.self.items c.args.name.now _
    (record { name = c.of-name.result; bytes = c.new-bytes.result })
    c.deref.ensures.value c.in-None.ensures.absent c.of-name.ensures c.new-bytes.ensures.items c.in_ok-push-in-None.ensures.items
