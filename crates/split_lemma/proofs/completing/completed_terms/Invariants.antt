use Rattle.split_lemma.proofs.CompletedTerms.{AreCompleted}
use Rattle.split_lemma.proofs.completing.completed_terms.Given as goal

abbrev pub invariant-loop-t : goal.invariant-loop-t
invariant-loop-t g l =
    let m = g.F.Ring.meaning l.field in
    AreCompleted l.f.n l.corank l.d l.w m (m.value l.inverse) l.f.terms l.t-index l.part.items
