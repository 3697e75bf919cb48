-- How the errors of a phase are passed on.
use Rattle.std.proofs.Common.{◌≡◌, Result, Ok, Err, IfOk, sym, subst}
use Rattle.std.specs.Result.{IsErrAnd}
use Rattle.ring_law.specs.declared.fraction.Fault.{Fault}
use Rattle.ring_law.specs.declared.fraction.Fault.TheVariants as faults
use Rattle.ring_law.specs.Refusals.{OnFault}
use Rattle.cert_text.specs.declared.report.Phase.{Phase}
use Rattle.determinator.specs.Places.{StopBy, OnStop, IsPastReading, stop_of}
use Rattle.determinator.specs.declared.stop.Stop.{Stop}
use Rattle.determinator.specs.declared.stop.Stop.TheVariants as stops

-- what holds of a result holds of it in a weaker form
pub if_ok : {T E : Type 0} {P Q : T → Type 0} (r : Result T E) → ((x : T) → P x → Q x) → IfOk r P → IfOk r Q
if_ok (Ok x) f h = f x h
if_ok (Err e) f h = h

weaker : {P Q : Phase → Type 0} (s : Stop) → ((p : Phase) → P p → Q p) → StopBy P s → StopBy Q s
weaker (stops.Range p) f h = (h.0, f p h.1)
weaker stops.NoMemory f h = h

-- and so of a stop
pub on_stop : {T : Type 0} {P Q : Phase → Type 0} (r : Result T Stop) → ((p : Phase) → P p → Q p) → OnStop r P → OnStop r Q
on_stop (Ok x) f h = record { only = h.only }
on_stop (Err s) f h = record { only = weaker s f h.only }

-- the fault of a call of a phase
pub stop_high : {T U H : Type 0} (p : Phase) → IsPastReading p → (e : Fault) (s : Stop) → s ≡ stop_of p e → OnFault {T = T} (Err e) H → (P : Phase → Type 0) → (H → P p) → OnStop {T = U} (Err s) P
stop_high p past (faults.Range r) s eq o P f = record { only = subst (StopBy P) (sym eq) (past, f o.only.1) }
stop_high p past faults.NoMemory s eq o P f = record { only = subst (StopBy P) (sym eq) tt }

-- an error that is handed on by `?`
pub stop_handed_on : {T U : Type 0} {s : Stop} {P Q : Phase → Type 0} (r : Result U Stop) → IsErrAnd r (λ y. y ≡ s) → ((p : Phase) → P p → Q p) → OnStop {T = T} (Err s) P → OnStop r Q
stop_handed_on (Ok x) h f o = absurd h
stop_handed_on {s} {Q} (Err y) h f o = record { only = subst (StopBy Q) (sym h) (weaker s f o.only) }
