-- `report::print::lines` meets its contract. The loop's invariant: what is left to print, laid from where it stands, gives the whole.
-- Assumes nothing.
use Rattle.std.proofs.Common.{◌≡◌, ◌*◌, ◌<◌, ◌≤◌, length, ◌∙◌, sym, ap, subst, arith}
use Rattle.program.specs.Command.{is_page}
use Rattle.machine.specs.Atom.{Line}
use Rattle.engine.specs.Runs.{read_in}
use Rattle.engine.specs.Layout.{line_in, lines_of}
use Rattle.engine.proofs.Pairs.{lines-length}
use Rattle.report.specs.Lines.{shown_text}
use Rattle.report.specs.Written.{Written}
use Rattle.report.proofs.Printing.{lines_from, printing-start, printing-end, printing-next}
use Rattle.report.proofs.print.lines.Goals as goal
use Rattle.report.proofs.print.lines.Goals.{After-min-i-end}

-- as many lines as fit
counted : (c : After-min-i-end) → c.min-i-end.result ≡ length (lines_of c.args.written (read_in c.args.space))
counted c = rw (c.min-i-end.ensures, c.room.ensures) (sym (lines-length (read_in c.args.space) c.args.written))

fits : (c : After-min-i-end) → 33 * length (lines_of c.args.written (read_in c.args.space)) ≤ length c.args.out.now
fits c = omega (arith, lines-length (read_in c.args.space) c.args.written, c.requires.0)

pub loop-i-init : goal.loop-i-init
loop-i-init c = printing-start _ _ _

pub shown-at-requires : goal.shown-at-requires
shown-at-requires c =
    let d = (goal.at.shown-at-requires c).After-min-i-end in
    let i = c.loop-i.invariant in (
      omega (arith, fits d, counted d, c.loop-i-test.true, i.short, i.same),
      ap (λ (x : Line). is_page x.page) c.at.ensures ∙ c.requires.1 c.loop-i.i,
    )

pub loop-i-preserved : goal.loop-i-preserved
loop-i-preserved c =
    let d = (goal.at.loop-i-preserved c).After-min-i-end in
    let a = c.args in
    let i = c.loop-i.i in
    let space = read_in a.space in
    let below : i < length (lines_of a.written space) = omega (arith, counted d, c.loop-i-test.true) in
    printing-next a.reader.0 (lines_of a.written space) a.out.now c.loop-i.out c.loop-i.at i c.loop-i.invariant (line_in i space)
    (lines_from space a.written i below) below (fits d) _ _
    (subst (λ (x : Line). Written (shown_text a.reader.0 x) c.loop-i.out c.loop-i.at c.shown-at.result c.shown-at.new.out)
    c.at.ensures c.shown-at.ensures.text)
    c.shown-at.ensures.short

pub returns : goal.returns
returns c = printing-end _ _ _ _ _ _ c.loop-i.invariant (omega (arith, counted (goal.at.returns c).After-min-i-end, c.loop-i-test.false))
