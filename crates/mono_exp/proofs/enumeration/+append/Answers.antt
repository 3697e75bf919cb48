use Rattle.std.proofs.Common.{◌≡◌, suc, ◌+◌, ◌-◌, [], ◌∷◌, ◌++◌, map, take, length, sym, ap, ap₂, subst, ◌∙◌, append-nil, rules, arith}
use Rattle.std.proofs.lemmas.List.{map-append}
use Rattle.mono_exp.specs.Exponents.{exponents, monomials_of}
use Rattle.mono_exp.proofs.NumberLemmas.{exponents-take}
use Rattle.mono_exp.proofs.ListLemmas.{begun, monomials-begun, monomials-end, monomials-one, step}
use Rattle.mono_exp.proofs.enumeration.+append.Goals as goal

pub returns-in_ok-push-clause-list : goal.returns-in_ok-push-clause-list
returns-in_ok-push-clause-list t c =
    let n = c.args.n in
    let front = c.args.front.e in
    let long : length c.args.front.e ≡ 8 = search rules in
    let whole : c.args.from ≡ c.args.n = c.if-from-n.true in
    let none : c.args.n - c.args.from ≡ 0 = omega arith in
    let small = c.requires.variables in
    let last : take c.args.from c.args.front.e ++ [] ≡ exponents c.args.n c.args.front.e =
    append-nil (take c.args.from c.args.front.e) ∙ ap (λ k. take k c.args.front.e) whole ∙ sym (exponents-take c.args.n c.args.front.e (omega arith)) in
    let one : monomials_of (c.args.n - c.args.from) c.args.d ≡ [] ∷ [] = ap₂ monomials_of none c.if-d-eq0.true ∙ monomials-one in
    ap (map (λ a. exponents c.args.n a.e)) c.in_ok-push.ensures.items
    ∙ map-append (λ a. exponents c.args.n a.e) c.args.all.now.items (c.args.front ∷ [])
    ∙ ap (λ z. map (λ a. exponents c.args.n a.e) c.args.all.now.items ++ z)
    (sym (ap (map (λ m. take c.args.from c.args.front.e ++ m)) one ∙ ap (λ z. z ∷ []) last))

pub returns-else-d-eq0-clause-list : goal.returns-else-d-eq0-clause-list
returns-else-d-eq0-clause-list t c =
    let whole : c.args.from ≡ c.args.n = c.if-from-n.true in
    let none : c.args.n - c.args.from ≡ 0 = omega arith in
    let up = c.if-d-eq0.false in
    sym (ap (λ z. map (λ a. exponents c.args.n a.e) c.args.all.now.items ++ map (λ m. take c.args.from c.args.front.e ++ m) z) (ap (λ k. monomials_of k c.args.d) none ∙ monomials-end c.args.d (omega arith))
    ∙ append-nil (map (λ a. exponents c.args.n a.e) c.args.all.now.items))

pub loop-j-preserved : goal.loop-j-preserved
loop-j-preserved t c =
    let rest : c.args.n - (c.args.from + 1) ≡ c.args.n - c.args.from - 1 = omega arith in
    record {
      so_far = step (map (λ a. exponents c.args.n a.e) c.args.all.now.items) (map (λ a. exponents c.args.n a.e) c.loop-j.all.items) (map (λ a. exponents c.args.n a.e) c.append.new.all.items)
          (take c.args.from c.args.front.e) (c.args.n - c.args.from - 1) c.args.d c.loop-j.j c.loop-j.invariant.so_far
          (c.in_ok-append.ensures.list
          ∙ ap₂ (λ y z. map (λ a. exponents c.args.n a.e) c.loop-j.all.items ++ map (λ m. y ++ m) (monomials_of z c.loop-j.j)) c.with_exponent.ensures.first rest);
      unused = λ h. c.in_ok-append.ensures.unused (c.loop-j.invariant.unused h);
    }

pub returns-clause-list : goal.returns-clause-list
returns-clause-list t c =
    let from = c.from-j-end.ensures in
    let last : c.loop-j.j ≡ suc c.args.d = (let a = c.loop-j-test.false in let b = c.loop-j.auto.j-end in omega arith) in
    let more : suc (c.args.n - c.args.from - 1) ≡ c.args.n - c.args.from = (let a = c.if-from-n.false in let b = c.requires.within in omega arith) in
    subst (λ z. map (λ a. exponents c.args.n a.e) c.loop-j.all.items ≡ map (λ a. exponents c.args.n a.e) c.args.all.now.items ++ map (λ m. take c.args.from c.args.front.e ++ m) z)
    (ap (begun (c.args.n - c.args.from - 1) c.args.d) last ∙ monomials-begun (c.args.n - c.args.from - 1) c.args.d ∙ ap (λ z. monomials_of z c.args.d) more)
    c.loop-j.invariant.so_far
