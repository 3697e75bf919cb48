-- How a refusal is passed on.
use Rattle.std.proofs.Common.{◌≡◌, Result, Ok, Err}
use Rattle.std.specs.Result.{IsErrAnd}
use Rattle.ring_law.specs.declared.fraction.Range.{Range}
use Rattle.ring_law.specs.declared.fraction.Fault.{Fault}
use Rattle.ring_law.specs.declared.fraction.Fault.TheVariants as fault
use Rattle.ring_law.specs.Refusals.{OnRange, OnFault, FaultBy}

range_weaker : {T : Type 0} (r : Result T Range) {P Q : Type 0} → (P → Q) → OnRange r P → OnRange r Q
range_weaker (Ok x) f h = record { only = tt }
range_weaker (Err e) f h = record { only = (h.only.0, f h.only.1) }

-- a refusal for a reason is one for a weaker reason
pub refused_by : {T : Type 0} {r : Result T Range} {P Q : Type 0} → (P → Q) → OnRange r P → OnRange r Q
refused_by {r} f h = range_weaker r f h

-- the error of a call, handed on by `?`: r is what it returns
pub handed_on : {T U : Type 0} {e : Range} {P Q : Type 0} (r : Result U Range) → IsErrAnd r (λ y. y ≡ e) → (P → Q) → OnRange {T = T} (Err e) P → OnRange r Q
handed_on (Ok x) h f o = absurd h
handed_on (Err y) h f o = record { only = rw h (o.only.0, f o.only.1) }

-- the same, as a fault
pub faulted : {T U : Type 0} {e : Range} {P Q : Type 0} (r : Result U Fault) → IsErrAnd r (λ y. y ≡ fault.Range e) → (P → Q) → OnRange {T = T} (Err e) P → OnFault r Q
faulted (Ok x) h f o = absurd h
faulted (Err y) h f o = record { only = rw h (o.only.0, f o.only.1) }

-- a fault, handed on
fault_weaker : {P Q : Type 0} (e : Fault) → (P → Q) → FaultBy P e → FaultBy Q e
fault_weaker (fault.Range e) f h = (h.0, f h.1)
fault_weaker fault.NoMemory f h = tt

pub fault_handed_on : {T U : Type 0} {e : Fault} {P Q : Type 0} (r : Result U Fault) → IsErrAnd r (λ y. y ≡ e) → (P → Q) → OnFault {T = T} (Err e) P → OnFault r Q
fault_handed_on (Ok x) h f o = absurd h
fault_handed_on {e} (Err y) h f o = record { only = rw h (fault_weaker e f o.only) }

-- a fault for a reason is one for a weaker reason
faults_weaker : {T : Type 0} {P Q : Type 0} (r : Result T Fault) → (P → Q) → OnFault r P → OnFault r Q
faults_weaker (Ok x) f h = record { only = tt }
faults_weaker (Err e) f h = record { only = fault_weaker e f h.only }

pub faulted_by : {T : Type 0} {r : Result T Fault} {P Q : Type 0} → (P → Q) → OnFault r P → OnFault r Q
faulted_by {r} f h = faults_weaker r f h
