-- `by_ring`: the solver with both expressions read off the goal by `search`.
use Rattle.std.proofs.Common.{◌≡◌, List, ◌∷◌, pos, T, refl, sym, ◌∙◌, ap, ap₂}
use Rattle.ring_theory.specs.Ring.{RingOps, IsCommRing}
use Rattle.ring_theory.proofs.RingExpr.{Expr, var, lit, ◌⊞◌, ◌⊠◌, ⊟◌, agree}
use Rattle.ring_theory.proofs.RingSolver.{denote, ring}

-- an expression that denotes v
pub record Reified {V : Type 0} (r : RingOps V) (xs : List V) (v : V) : Type 0 where
  pub expr : Expr
  pub is : denote r xs expr ≡ v

-- both sides of an equation
pub record Equation {V : Type 0} (r : RingOps V) (xs : List V) (a b : V) : Type 0 where
  pub left : Reified r xs a
  pub right : Reified r xs b

module _ {V : Type 0} {r : RingOps V} where
  abbrev pub reify_add : {xs : List V} {a b : V} → Reified r xs a → Reified r xs b → Reified r xs (r.add a b)
  reify_add p q = record { expr = p.expr ⊞ q.expr; is = ap₂ r.add p.is q.is }

  abbrev pub reify_mul : {xs : List V} {a b : V} → Reified r xs a → Reified r xs b → Reified r xs (r.mul a b)
  reify_mul p q = record { expr = p.expr ⊠ q.expr; is = ap₂ r.mul p.is q.is }

  abbrev pub reify_neg : {xs : List V} {a : V} → Reified r xs a → Reified r xs (r.neg a)
  reify_neg p = record { expr = ⊟ p.expr; is = ap r.neg p.is }

  abbrev pub reify_zero : {xs : List V} → Reified r xs r.zero
  reify_zero = record { expr = lit (pos 0); is = refl }

  abbrev pub reify_one : {xs : List V} → Reified r xs r.one
  reify_one = record { expr = lit (pos 1); is = refl }

  abbrev pub both : {xs : List V} {a b : V} → Reified r xs a → Reified r xs b → Equation r xs a b
  both p q = record { left = p; right = q }

  -- the variables, by their places in the list

  abbrev pub atom0 : {x0 : V} {xs : List V} → Reified r (x0 ∷ xs) x0
  atom0 = record { expr = var 0; is = refl }

  abbrev pub atom1 : {x0 x1 : V} {xs : List V} → Reified r (x0 ∷ x1 ∷ xs) x1
  atom1 = record { expr = var 1; is = refl }

  abbrev pub atom2 : {x0 x1 x2 : V} {xs : List V} → Reified r (x0 ∷ x1 ∷ x2 ∷ xs) x2
  atom2 = record { expr = var 2; is = refl }

  abbrev pub atom3 : {x0 x1 x2 x3 : V} {xs : List V} → Reified r (x0 ∷ x1 ∷ x2 ∷ x3 ∷ xs) x3
  atom3 = record { expr = var 3; is = refl }

  abbrev pub atom4 : {x0 x1 x2 x3 x4 : V} {xs : List V} → Reified r (x0 ∷ x1 ∷ x2 ∷ x3 ∷ x4 ∷ xs) x4
  atom4 = record { expr = var 4; is = refl }

  abbrev pub atom5 : {x0 x1 x2 x3 x4 x5 : V} {xs : List V} → Reified r (x0 ∷ x1 ∷ x2 ∷ x3 ∷ x4 ∷ x5 ∷ xs) x5
  atom5 = record { expr = var 5; is = refl }

  abbrev pub atom6 : {x0 x1 x2 x3 x4 x5 x6 : V} {xs : List V} → Reified r (x0 ∷ x1 ∷ x2 ∷ x3 ∷ x4 ∷ x5 ∷ x6 ∷ xs) x6
  atom6 = record { expr = var 6; is = refl }

  abbrev pub atom7 : {x0 x1 x2 x3 x4 x5 x6 x7 : V} {xs : List V} → Reified r (x0 ∷ x1 ∷ x2 ∷ x3 ∷ x4 ∷ x5 ∷ x6 ∷ x7 ∷ xs) x7
  atom7 = record { expr = var 7; is = refl }

  abbrev pub atom8 : {x0 x1 x2 x3 x4 x5 x6 x7 x8 : V} {xs : List V} → Reified r (x0 ∷ x1 ∷ x2 ∷ x3 ∷ x4 ∷ x5 ∷ x6 ∷ x7 ∷ x8 ∷ xs) x8
  atom8 = record { expr = var 8; is = refl }

  abbrev pub atom9 : {x0 x1 x2 x3 x4 x5 x6 x7 x8 x9 : V} {xs : List V} → Reified r (x0 ∷ x1 ∷ x2 ∷ x3 ∷ x4 ∷ x5 ∷ x6 ∷ x7 ∷ x8 ∷ x9 ∷ xs) x9
  atom9 = record { expr = var 9; is = refl }

  abbrev pub atom10 : {x0 x1 x2 x3 x4 x5 x6 x7 x8 x9 x10 : V} {xs : List V} → Reified r (x0 ∷ x1 ∷ x2 ∷ x3 ∷ x4 ∷ x5 ∷ x6 ∷ x7 ∷ x8 ∷ x9 ∷ x10 ∷ xs) x10
  atom10 = record { expr = var 10; is = refl }

  abbrev pub atom11 : {x0 x1 x2 x3 x4 x5 x6 x7 x8 x9 x10 x11 : V} {xs : List V} → Reified r (x0 ∷ x1 ∷ x2 ∷ x3 ∷ x4 ∷ x5 ∷ x6 ∷ x7 ∷ x8 ∷ x9 ∷ x10 ∷ x11 ∷ xs) x11
  atom11 = record { expr = var 11; is = refl }

pub ruleset reify = (both, reify_add, reify_mul, reify_neg, reify_zero, reify_one, atom0, atom1, atom2, atom3, atom4, atom5, atom6, atom7, atom8, atom9, atom10, atom11)

-- `by_ring laws (x ∷ y ∷ []) (search reify depth 20) tt` proves an equation of x and y that the laws give
pub by_ring : {V : Type 0} {r : RingOps V} (laws : IsCommRing r) (xs : List V) {a b : V} (e : Equation r xs a b) → T (agree e.left.expr e.right.expr) → a ≡ b
by_ring {r = r} laws xs e t = sym e.left.is ∙ ring r laws xs e.left.expr e.right.expr t ∙ e.right.is
