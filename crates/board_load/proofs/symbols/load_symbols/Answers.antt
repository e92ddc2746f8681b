use Rattle.std.proofs.Common.{◌∙◌}
use Rattle.std.proofs.lemmas.Result.{err_from_is_err_and}
use Rattle.board_load.specs.declared.refusal.Refusal.TheVariants.{NoMemory}
use Rattle.board_load.proofs.Rowwise.{pushed_when, symbols_fail, symbols_pushed}
use Rattle.board_load.proofs.symbols.load_symbols.Goals as goal

pub returns-in_err-list-clause-refused : goal.returns-in_err-list-clause-refused
returns-in_err-list-clause-refused g c =
    let p = err_from_is_err_and c.from_residual.result c.from_residual.ensures.1 in
    rw (p.1, p.2)
    (symbols_fail (g.S.Shelf.state c.args.shelf.now) (g.S.Shelf.state c.loop-row.shelf) (g.S.Shelf.state c.load_image_symbols.new.shelf)
    c.args.rows.now c.loop-row.row-index c.row-item.result c.loop-row.lists.items c.in_err-list.field-0.0
    c.loop-row-test.true c.row-item.is c.loop-row.invariant.quiet c.loop-row.invariant.lists c.in_err-list.ensures.refused)

pub returns-then-is_err-clause-refused : goal.returns-then-is_err-clause-refused
returns-then-is_err-clause-refused g c =
    symbols_fail (g.S.Shelf.state c.args.shelf.now) (g.S.Shelf.state c.loop-row.shelf) (g.S.Shelf.state c.load_image_symbols.new.shelf)
    c.args.rows.now c.loop-row.row-index c.row-item.result c.loop-row.lists.items NoMemory
    c.loop-row-test.true c.row-item.is c.loop-row.invariant.quiet c.loop-row.invariant.lists tt

pub loop-row-preserved : goal.loop-row-preserved
loop-row-preserved g c =
    let pushed = pushed_when _ c.push.new.self.items _ _ c.push.ensures.items c.if-is_err.ensures.negation in
    record {
      lists =
          symbols_pushed (g.S.Shelf.state c.args.shelf.now) (g.S.Shelf.state c.loop-row.shelf) c.args.rows.now c.loop-row.row-index c.row-item.result
          c.loop-row.lists.items c.push.new.self.items c.in_ok-list.list c.loop-row-test.true c.loop-row.invariant.quiet c.row-item.is
          c.in_ok-list.ensures.ok pushed c.loop-row.invariant.lists;
      quiet = c.in_ok-list.ensures.quiet ∙ c.loop-row.invariant.quiet;
    }
