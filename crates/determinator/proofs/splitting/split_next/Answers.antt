use Rattle.std.proofs.Common.{◌≢◌, suc, ◌≤◌, List, map, length, All, sym, subst, ◌∙◌, ap, arith}
use Rattle.std.specs.List.{AllByRecursion}
use Rattle.std.proofs.lemmas.List.{length-map}
use Rattle.std.proofs.lemmas.List.Elements.{All-from_recursion}
use Rattle.ring_law.proofs.Exits.{fault_handed_on}
use Rattle.ring_law.specs.declared.fraction.Frac.{Frac}
use Rattle.ext_algebra.specs.declared.algebra.Ext.{Ext}
use Rattle.ext_algebra.specs.Algebra.{Value, scalars, value_in, algebra_meaning}
use Rattle.jet_law.specs.Terms.{poly_of}
use Rattle.move_law.specs.Algebras.{lifted}
use Rattle.move_law.specs.Split.{split_move, split_work, squares_in}
use Rattle.split_lemma.specs.Splits.{AnyHigh}
use Rattle.coord_change.specs.MoveJets.{IsMoveExactly}
use Rattle.determinator.proofs.SplitLemmas.{high_growing, high_pushing, units, placed_next, split_is, split_high, grown_jet, standing_of, move}
use Rattle.determinator.proofs.SplitTests.{squares_count}
use Rattle.determinator.proofs.Terms.{unmapped}
use Rattle.determinator.proofs.splitting.split_next.Goals as goal

pub grow-requires-clause-stands : goal.grow-requires-clause-stands
grow-requires-clause-stands g c = standing_of c.args.corank c.args.algebra _ c.requires.placed

pub returns-in_err-grow-clause-range : goal.returns-in_err-grow-clause-range
returns-in_err-grow-clause-range g c =
    let a = c.args.algebra in
    fault_handed_on _ c.from_residual.ensures.1
    (λ high n last o germ moves place. high_growing n c.args.corank last germ a o moves (high n last o (lifted a germ) moves place.chain_is))
    c.in_err-grow.ensures.range

pub squares_of-requires-clause-jet : goal.squares_of-requires-clause-jet
squares_of-requires-clause-jet g c =
    let h = c.requires.placed in
    (grown_jet h.n c.args.corank h.last h.germ c.args.algebra h.o h.moves _ (c.in_ok-grow.ensures.chain h.n h.last h.o (lifted c.args.algebra h.germ) h.moves h.is.chain_is) c.carried-f.result.now c.carried-f.ensures).jet

pub squares_of-requires-clause-at_most_8_variables : goal.squares_of-requires-clause-at_most_8_variables
squares_of-requires-clause-at_most_8_variables g c =
    let h = c.requires.placed in
    let jet = grown_jet h.n c.args.corank h.last h.germ c.args.algebra h.o h.moves _ (c.in_ok-grow.ensures.chain h.n h.last h.o (lifted c.args.algebra h.germ) h.moves h.is.chain_is) c.carried-f.result.now c.carried-f.ensures in
    subst (λ z. z ≤ 8) (sym jet.variables) h.is.chain_is.at_most_8_variables

pub squares_of-requires-clause-corank : goal.squares_of-requires-clause-corank
squares_of-requires-clause-corank g c =
    let h = c.requires.placed in
    let jet = grown_jet h.n c.args.corank h.last h.germ c.args.algebra h.o h.moves _ (c.in_ok-grow.ensures.chain h.n h.last h.o (lifted c.args.algebra h.germ) h.moves h.is.chain_is) c.carried-f.result.now c.carried-f.ensures in
    subst (λ z. c.args.corank ≤ z) (sym jet.variables) h.is.corank

pub split-requires-clause-jet : goal.split-requires-clause-jet
split-requires-clause-jet g c =
    let h = c.requires.placed in
    (grown_jet h.n c.args.corank h.last h.germ c.args.algebra h.o h.moves _ (c.in_ok-grow.ensures.chain h.n h.last h.o (lifted c.args.algebra h.germ) h.moves h.is.chain_is) c.carried-f.result.now c.carried-f.ensures).jet

pub split-requires-clause-variables : goal.split-requires-clause-variables
split-requires-clause-variables g c =
    let h = c.requires.placed in
    let jet = grown_jet h.n c.args.corank h.last h.germ c.args.algebra h.o h.moves _ (c.in_ok-grow.ensures.chain h.n h.last h.o (lifted c.args.algebra h.germ) h.moves h.is.chain_is) c.carried-f.result.now c.carried-f.ensures in
    subst (λ z. 1 ≤ z) (sym jet.variables) h.is.chain_is.given

pub split-requires-clause-at_most_8_variables : goal.split-requires-clause-at_most_8_variables
split-requires-clause-at_most_8_variables g c =
    let h = c.requires.placed in
    let jet = grown_jet h.n c.args.corank h.last h.germ c.args.algebra h.o h.moves _ (c.in_ok-grow.ensures.chain h.n h.last h.o (lifted c.args.algebra h.germ) h.moves h.is.chain_is) c.carried-f.result.now c.carried-f.ensures in
    subst (λ z. z ≤ 8) (sym jet.variables) h.is.chain_is.at_most_8_variables

pub split-requires-clause-order_at_most_16 : goal.split-requires-clause-order_at_most_16
split-requires-clause-order_at_most_16 g c =
    let h = c.requires.placed in
    let grown = c.in_ok-grow.ensures.chain h.n h.last h.o (lifted c.args.algebra h.germ) h.moves h.is.chain_is in
    let jet = grown_jet h.n c.args.corank h.last h.germ c.args.algebra h.o h.moves _ grown c.carried-f.result.now c.carried-f.ensures in
    let p = jet.order in
    let q = grown.order_at_most_last in
    let r = grown.last_at_most_16 in
    omega arith

pub split-requires-clause-corank : goal.split-requires-clause-corank
split-requires-clause-corank g c =
    let h = c.requires.placed in
    let jet = grown_jet h.n c.args.corank h.last h.germ c.args.algebra h.o h.moves _ (c.in_ok-grow.ensures.chain h.n h.last h.o (lifted c.args.algebra h.germ) h.moves h.is.chain_is) c.carried-f.result.now c.carried-f.ensures in
    subst (λ z. c.args.corank ≤ z) (sym jet.variables) h.is.corank

pub split-requires-clause-count : goal.split-requires-clause-count
split-requires-clause-count g c =
    let a = c.args.algebra in
    let f = c.carried-f.result.now in
    ap (λ (l : List (Ext Frac)). length l) c.deref.ensures.value ∙ sym (length-map c.in_ok-squares.squares.items (value_in a)) ∙ ap (λ (l : List (Value a)). length l) c.in_ok-squares.ensures.values
    ∙ squares_count f.n c.args.corank (scalars a) (poly_of f.n (value_in a) f.terms)

pub split-requires-clause-degree_at_least_3 : goal.split-requires-clause-degree_at_least_3
split-requires-clause-degree_at_least_3 g c =
    let h = c.requires.placed in
    let jet = grown_jet h.n c.args.corank h.last h.germ c.args.algebra h.o h.moves _ (c.in_ok-grow.ensures.chain h.n h.last h.o (lifted c.args.algebra h.germ) h.moves h.is.chain_is) c.carried-f.result.now c.carried-f.ensures in
    let low = h.is.chain_is.order_at_least_2 in
    let p = jet.order in
    let q = c.order.ensures in
    omega arith

pub split-requires-clause-units : goal.split-requires-clause-units
split-requires-clause-units g c =
    let a = c.args.algebra in
    let h = c.requires.placed in
    let f = c.carried-f.result.now in
    let jet = grown_jet h.n c.args.corank h.last h.germ a h.o h.moves _ (c.in_ok-grow.ensures.chain h.n h.last h.o (lifted a h.germ) h.moves h.is.chain_is) f c.carried-f.ensures in
    let here : AllByRecursion (λ v. v ≢ (scalars a).ops.zero) (squares_in f.n (scalars a) c.args.corank (poly_of f.n (value_in a) f.terms)) =
    subst (λ z. AllByRecursion (λ v. v ≢ (scalars a).ops.zero) (squares_in z (scalars a) c.args.corank (poly_of z (value_in a) f.terms))) (sym jet.variables)
    (subst (λ p. AllByRecursion (λ v. v ≢ (scalars a).ops.zero) (squares_in h.n (scalars a) c.args.corank p)) (sym jet.polynomial)
    (units h.n c.args.corank h.last h.germ a h.o h.moves _ h.is)) in
    subst (All (λ x. value_in a x ≢ (scalars a).ops.zero)) (sym c.deref.ensures.value)
    (All-from_recursion (λ x. value_in a x ≢ (scalars a).ops.zero) c.in_ok-squares.squares.items
    (unmapped (λ v. v ≢ (scalars a).ops.zero) (value_in a) c.in_ok-squares.squares.items (subst (AllByRecursion (λ v. v ≢ (scalars a).ops.zero)) (sym c.in_ok-squares.ensures.values) here)))

pub returns-in_err-change-clause-range : goal.returns-in_err-change-clause-range
returns-in_err-change-clause-range g c =
    let a = c.args.algebra in
    let f = c.carried-f.result.now in
    fault_handed_on _ c.from_residual-in_err-change.ensures.1
    (λ high n last o germ moves place.
    let jet = grown_jet n c.args.corank last germ a o moves _ (c.in_ok-grow.ensures.chain n last o (lifted a germ) moves place.chain_is) f c.carried-f.ensures in
    split_high n c.args.corank last germ a o moves f _ jet (ap (map (value_in a)) c.deref.ensures.value ∙ c.in_ok-squares.ensures.values)
    (subst (λ d. AnyHigh f.n (scalars a) (split_work f.n (scalars a) c.args.corank d (map (value_in a) c.deref.result.now) (poly_of f.n (value_in a) f.terms))) c.order.ensures high))
    c.in_err-change.ensures.range

pub push-requires-clause-stands : goal.push-requires-clause-stands
push-requires-clause-stands g c =
    let h = c.requires.placed in
    let grown = c.in_ok-grow.ensures.chain h.n h.last h.o (lifted c.args.algebra h.germ) h.moves h.is.chain_is in
    record { n = h.n; last = h.last; germ = lifted c.args.algebra h.germ; o = suc h.o; moves = h.moves; is = grown }

pub push-requires-clause-variables : goal.push-requires-clause-variables
push-requires-clause-variables g c =
    let h = c.requires.placed in
    let grown = c.in_ok-grow.ensures.chain h.n h.last h.o (lifted c.args.algebra h.germ) h.moves h.is.chain_is in
    let jet = grown_jet h.n c.args.corank h.last h.germ c.args.algebra h.o h.moves _ grown c.carried-f.result.now c.carried-f.ensures in
    c.in_ok-change.ensures.change.variables ∙ jet.variables ∙ sym grown.germ_is.variables

pub push-requires-clause-order : goal.push-requires-clause-order
push-requires-clause-order g c =
    let h = c.requires.placed in
    let grown = c.in_ok-grow.ensures.chain h.n h.last h.o (lifted c.args.algebra h.germ) h.moves h.is.chain_is in
    let e = grown.germ_is.order in
    let k = c.in_ok-change.ensures.change.order in
    let s = grown.last_at_most_16 in
    omega arith

pub returns-in_err-push-clause-range : goal.returns-in_err-push-clause-range
returns-in_err-push-clause-range g c =
    let a = c.args.algebra in
    let f = c.carried-f.result.now in
    fault_handed_on _ c.from_residual-in_err-push.ensures.1
    (λ high n last o germ moves place.
    let grown = c.in_ok-grow.ensures.chain n last o (lifted a germ) moves place.chain_is in
    let jet = grown_jet n c.args.corank last germ a o moves _ grown f c.carried-f.ensures in
    high_pushing n c.args.corank last germ a o moves
    (high n last (suc o) 16 (lifted a germ) moves (move n c.args.corank last germ a o moves) grown grown.last_at_most_16
    (split_is n c.args.corank last germ a o moves f _ c.in_ok-change.change jet (ap (map (value_in a)) c.deref.ensures.value ∙ c.in_ok-squares.ensures.values)
    (subst (λ d. IsMoveExactly (algebra_meaning a) f.n 16 (split_move f.n (scalars a) c.args.corank d (map (value_in a) c.deref.result.now) (poly_of f.n (value_in a) f.terms)) c.in_ok-change.change) c.order.ensures c.in_ok-change.ensures.change))))
    c.in_err-push.ensures.range

pub returns-clause-chain : goal.returns-clause-chain
returns-clause-chain g c n last o germ moves place =
    let a = c.args.algebra in
    let f = c.carried-f.result.now in
    let grown = c.in_ok-grow.ensures.chain n last o (lifted a germ) moves place.chain_is in
    let jet = grown_jet n c.args.corank last germ a o moves _ grown f c.carried-f.ensures in
    placed_next n c.args.corank last germ a o moves _ place c.requires.field _
    (c.in_ok-push.ensures.chain n last (suc o) 16 (lifted a germ) moves (move n c.args.corank last germ a o moves) grown grown.last_at_most_16
    (split_is n c.args.corank last germ a o moves f _ c.in_ok-change.change jet (ap (map (value_in a)) c.deref.ensures.value ∙ c.in_ok-squares.ensures.values)
    (subst (λ d. IsMoveExactly (algebra_meaning a) f.n 16 (split_move f.n (scalars a) c.args.corank d (map (value_in a) c.deref.result.now) (poly_of f.n (value_in a) f.terms)) c.in_ok-change.change) c.order.ensures c.in_ok-change.ensures.change)))
