use Rattle.std.proofs.Common.{◌∙◌, sym, ap, refl, subst}
use Rattle.ring_law.proofs.Exits.{faulted}
use Rattle.lin_row.proofs.LineLaws
use Rattle.lin_row.proofs.line.add_entry.Goals as goal
use Rattle.lin_row.proofs.line.add_entry.Goals.{else-start-from-via-then-start-from+else-from-start, else-start-from-via-else-start-from}

pub add-requires-clause-left : goal.add-requires-clause-left
add-requires-clause-left g c =
    let m = g.R.Ring.meaning c.args.ring.now in
    let all = LineLaws.units_at m (g.met.R.Ring.laws c.args.ring.now c.requires.ring).numbers.ring c.args.from.now c.args.start c.index-from-start-then-from-start.result c.if-start-from.true c.index-from-start-then-from-start.is c.requires.from_units in
    subst (λ t. m.is_elem t.1) c.index-from-start-then-from-start.is all.0

pub returns-in_err-both-clause-cause : goal.returns-in_err-both-clause-cause
returns-in_err-both-clause-cause g c =
    let m = g.R.Ring.meaning c.args.ring.now in
    faulted _ c.from_residual.ensures.1
    (λ high. record {
      place = c.args.start;
      at = c.index-from-start-then-from-start.result;
      within = c.if-start-from.true;
      read = c.index-from-start-then-from-start.is;
      column = ap (λ t. t.0) (LineLaws.same_read c.args.from.now c.args.start c.index-from-start-then-from-start.result c.index-from-start.result c.if-start-from.true c.index-from-start-then-from-start.is c.index-from-start.is ∙ c.index-from-start.is) ∙ c.if-from-start.true;
      high = rw (← c.index-from-start-then-from-start.is) at high;
    })
    c.in_err-both.ensures.cause

pub returns-in_ok-push_entry-clause-left : goal.returns-in_ok-push_entry-clause-left
returns-in_ok-push_entry-clause-left g c y rest p q =
    c.in_ok-push_entry.ensures.rising _ (LineLaws.both_left c.args.line.now.items c.args.from.now c.args.start c.index-from-start.result _ c.if-start-from.true c.index-from-start.is (ap (λ t. t.0) c.index-from-start.is ∙ c.if-from-start.true) p)

pub returns-in_ok-push_entry-clause-right : goal.returns-in_ok-push_entry-clause-right
returns-in_ok-push_entry-clause-right g c y rest q =
    c.in_ok-push_entry.ensures.rising rest (LineLaws.rising_same c.args.line.now.items rest (c.args.column, y) _ refl q)

pub returns-in_ok-push_entry-2-clause-left : goal.returns-in_ok-push_entry-2-clause-left
returns-in_ok-push_entry-2-clause-left g c y rest p q =
    c.in_ok-push_entry-2.ensures.rising _ (elim c.else-start-from.branch [
      | else-start-from-via-then-start-from+else-from-start w ↦
          LineLaws.single_some c.args.line.now.items c.args.from.now rest c.args.start w.index-from-start.result (c.args.column, c.args.x) (c.args.column, y) w.if-start-from.true w.index-from-start.is (λ e. w.if-from-start.false (sym (ap (λ t. t.0) w.index-from-start.is) ∙ e)) refl c.requires.starts p q
      | else-start-from-via-else-start-from w ↦
          LineLaws.single_none c.args.line.now.items c.args.from.now rest c.args.start (c.args.column, c.args.x) (c.args.column, y) w.if-start-from.false refl q
    ])

pub returns-in_ok-push_entry-2-clause-right : goal.returns-in_ok-push_entry-2-clause-right
returns-in_ok-push_entry-2-clause-right g c y rest q =
    c.in_ok-push_entry-2.ensures.rising rest (LineLaws.rising_same c.args.line.now.items rest (c.args.column, y) (c.args.column, c.args.x) refl q)
