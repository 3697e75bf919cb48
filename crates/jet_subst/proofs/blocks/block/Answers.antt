use Rattle.std.proofs.Common.{All, [], take_all, refl, sym, ◌∙◌, subst, arith}
use Rattle.ring_law.proofs.Exits.{fault_handed_on, faulted_by}
use Rattle.poly_law.specs.ExpList.{exps}
use Rattle.poly_law.specs.Polynomials.{SameIn, cut_in}
use Rattle.mono_exp.specs.Exponents.{IsIn}
use Rattle.jet_law.specs.Heights.{IsHigh, sums_heights}
use Rattle.jet_law.specs.Terms.{poly_of}
use Rattle.jet_subst.specs.Parts.{IsMultipleAmongHigh}
use Rattle.jet_subst.specs.Blocks.{AddsBlock, AreBlocks}
use Rattle.jet_subst.proofs.Tables.{if_ok}
use Rattle.jet_subst.proofs.Multiples
use Rattle.jet_subst.proofs.BlockLemmas
use Rattle.jet_subst.proofs.blocks.block.Goals as goal

pub loop-t-init : goal.loop-t-init
loop-t-init g c =
    let m = g.R.Ring.meaning c.args.ring.now in
    let l = (g.met.R.Ring.laws c.args.ring.now c.requires.ring).numbers in
    let k = c.args.kept.now in
    record {
      within = omega arith;
      kept = c.requires.kept;
      stays = record { n = refl; order = refl; parts = refl };
      blocks = subst (AreBlocks m k.n k.order k.parts []) (sym c.new-all.ensures.items) (BlockLemmas.no_blocks m l.ring k.n k.order k.parts);
    }

pub loop-t-preserved : goal.loop-t-preserved
loop-t-preserved g c =
    let m = g.R.Ring.meaning c.args.ring.now in
    let l = (g.met.R.Ring.laws c.args.ring.now c.requires.ring).numbers in
    let k = c.args.kept.now in
    let e = c.in_ok-push_block.ensures in
    let i = c.loop-t.invariant in
    let all = c.push_block.new.all.items in
    record {
      within = omega arith;
      kept = e.kept;
      stays = BlockLemmas.kept_on k c.loop-t.kept c.push_block.new.kept i.stays e.stays;
      blocks = BlockLemmas.more_blocks m l.ring k.n k.order k.parts c.terms-t-items.result.now c.loop-t.all.items all c.loop-t.t-index c.t-item.result c.loop-t-test.true c.t-item.is i.blocks e.elems
          (BlockLemmas.as_kept k c.loop-t.kept (λ n d ps. All (λ u. IsIn n u.0.e) all) i.stays e.variables)
          (BlockLemmas.as_kept k c.loop-t.kept (λ n d ps. AddsBlock m n d ps c.t-item.result c.loop-t.all.items all) i.stays e.adds);
    }

pub returns-in_err-push_block-clause-range : goal.returns-in_err-push_block-clause-range
returns-in_err-push_block-clause-range g c =
    let m = g.R.Ring.meaning c.args.ring.now in
    let l = (g.met.R.Ring.laws c.args.ring.now c.requires.ring).numbers in
    let k = c.args.kept.now in
    let f = c.args.f.now in
    let ts = c.terms-t-items.result.now in
    let terms = c.terms-t-items.ensures in
    fault_handed_on _ c.from_residual.ensures.1
    (λ high. Multiples.high_at m f k.parts ts c.requires.one_each terms.terms k.n k.n k.order refl
    (Multiples.multiple_high m l.ring k.n k.order k.parts ts (Multiples.terms_reduced m f k.parts ts c.requires.one_each terms.terms c.requires.jet terms.rising) (Multiples.terms_units m f k.parts ts c.requires.one_each terms.terms c.requires.jet)
    c.loop-t.t-index c.t-item.result c.loop-t-test.true c.t-item.is (BlockLemmas.as_kept k c.loop-t.kept (λ n d ps. IsMultipleAmongHigh m n d ps c.t-item.result) c.loop-t.invariant.stays high)))
    c.in_err-push_block.ensures.range

pub returns-clause-block : goal.returns-clause-block
returns-clause-block g c =
    let m = g.R.Ring.meaning c.args.ring.now in
    let l = (g.met.R.Ring.laws c.args.ring.now c.requires.ring).numbers in
    let k = c.args.kept.now in
    let f = c.args.f.now in
    let ts = c.terms-t-items.result.now in
    let made = c.deref.result.now in
    let all : AreBlocks m k.n k.order k.parts ts made =
    subst (AreBlocks m k.n k.order k.parts ts) (sym c.deref.ensures.value) (subst (λ z. AreBlocks m k.n k.order k.parts z c.loop-t.all.items) (take_all c.loop-t.t-index ts (omega arith)) c.loop-t.invariant.blocks) in
    if_ok c.from_terms.result
    (λ h p. BlockLemmas.block_at m f k.parts ts h.terms k.n k.order c.requires.one_each c.terms-t-items.ensures.terms
    (λ b. BlockLemmas.as_kept k c.loop-t.kept (λ n d ps. SameIn n m.scalars.ops (poly_of n m.value h.terms) (cut_in n m.scalars.ops d (poly_of n m.value made))) c.loop-t.invariant.stays p b
    ∙ BlockLemmas.blocks_add m l.ring k.n k.order k.parts ts made all b))
    c.from_terms.ensures.sum

pub returns-clause-range : goal.returns-clause-range
returns-clause-range g c =
    let m = g.R.Ring.meaning c.args.ring.now in
    let l = (g.met.R.Ring.laws c.args.ring.now c.requires.ring).numbers in
    let k = c.args.kept.now in
    let f = c.args.f.now in
    let ts = c.terms-t-items.result.now in
    let made = c.deref.result.now in
    let all : AreBlocks m k.n k.order k.parts ts made =
    subst (AreBlocks m k.n k.order k.parts ts) (sym c.deref.ensures.value) (subst (λ z. AreBlocks m k.n k.order k.parts z c.loop-t.all.items) (take_all c.loop-t.t-index ts (omega arith)) c.loop-t.invariant.blocks) in
    let terms = c.terms-t-items.ensures in
    faulted_by
    (λ high. Multiples.high_at m f k.parts ts c.requires.one_each terms.terms k.n k.n k.order refl
    (BlockLemmas.blocks_high m l.ring k.n k.order k.parts ts made (Multiples.terms_reduced m f k.parts ts c.requires.one_each terms.terms c.requires.jet terms.rising) all
    (BlockLemmas.as_kept k c.loop-t.kept (λ n d ps. IsHigh (sums_heights (exps n) m.scalars (cut_in n m.scalars.ops d (poly_of n m.value made)))) c.loop-t.invariant.stays high)))
    c.from_terms.ensures.range
