-- Where a reader of several fields finds one lacking.
use Rattle.std.proofs.Common.{◌≡◌, ℕ, ◌+◌, ◌<◌, List, ◌++◌, length, ap, arith, length-append}
use Rattle.std.specs.Prelude.{flat_map}
use Rattle.std.specs.List.{AllByRecursion}
use Rattle.reading.specs.Field.{PairFits}
use Rattle.reading.specs.declared.stuck.Fault.{Fault}
use Rattle.reading.specs.declared.stuck.Fault.TheVariants.{Stuck, OutOfMemory}
use Rattle.partition_frames.specs.Field.{together}
use Rattle.partition_frames.specs.Pieces.{LacksBefore, LacksBy, SoMany}
use Rattle.partition_frames.proofs.Lacking.{Tells, first_lacks, lacks_otherwise, pair_fields, second_lacks}
use Rattle.partition_frames.proofs.Sequences.{list_lacks}

pub before_first : {A B : Type 0} (first : A → List (List ℕ)) (Fits : A → Type 0) (second : A → B → List (List ℕ)) (SecondFits : A → B → Type 0)
    → ((a : A) → Fits a → (b : B) × SecondFits a b) → (text : List ℕ) (left : ℕ) → LacksBefore first Fits text left
    → LacksBefore (pair_fields first second) (PairFits Fits SecondFits) text left
before_first first Fits second SecondFits some text left l =
    record { at = l.at; sum = l.sum; lacks = first_lacks first Fits second SecondFits some text l.at l.lacks }

pub before_second : {A B : Type 0} (first : A → List (List ℕ)) (Fits : A → Type 0) (second : A → B → List (List ℕ)) (SecondFits : A → B → Type 0)
    → Tells first Fits → (a : A) → Fits a → (text after : List ℕ) (left : ℕ) → text ≡ together (first a) ++ after
    → LacksBefore (second a) (SecondFits a) after left → LacksBefore (pair_fields first second) (PairFits Fits SecondFits) text left
before_second first Fits second SecondFits tells a fits text after left cut l = record {
  at = length (together (first a)) + l.at;
  sum = omega (arith, l.sum, ap length cut, length-append (together (first a)) after);
  lacks = second_lacks first Fits second SecondFits tells a fits text after l.at cut l.lacks;
}

pub before_otherwise : {A B : Type 0} (fields : A → List (List ℕ)) (Fits : A → Type 0) (other : B → List (List ℕ)) (OtherFits : B → Type 0)
    (on : A → B) (back : B → A) → ((a : A) → Fits a → OtherFits (on a) × (other (on a) ≡ fields a))
    → ((b : B) → OtherFits b → Fits (back b) × (fields (back b) ≡ other b))
    → (text : List ℕ) (left : ℕ) → LacksBefore fields Fits text left → LacksBefore other OtherFits text left
before_otherwise fields Fits other OtherFits on back there here text left l =
    record { at = l.at; sum = l.sum; lacks = lacks_otherwise fields Fits other OtherFits on back there here text l.at l.lacks }

-- the values done fit, and the next one lacks a field
pub before_list : {A : Type 0} (fields : A → List (List ℕ)) (Fits : A → Type 0) → Tells fields Fits → (some : A) → Fits some
    → (done : List A) (count : ℕ) → AllByRecursion Fits done → length done < count → (text after : List ℕ) (left : ℕ)
    → text ≡ together (flat_map fields done) ++ after → LacksBefore fields Fits after left
    → LacksBefore (flat_map fields) (SoMany Fits count) text left
before_list fields Fits tells some some_fits done count fits less text after left cut l = record {
  at = length (together (flat_map fields done)) + l.at;
  sum = omega (arith, l.sum, ap length cut, length-append (together (flat_map fields done)) after);
  lacks = list_lacks fields Fits tells some some_fits done count fits less text after l.at cut l.lacks;
}

-- the same of a fault
pub by_fault : {A B : Type 0} (fields : A → List (List ℕ)) (Fits : A → Type 0) (from : List ℕ) (whole : B → List (List ℕ)) (WholeFits : B → Type 0)
    (text : List ℕ) → ((left : ℕ) → LacksBefore fields Fits from left → LacksBefore whole WholeFits text left) → (fault : Fault)
    → LacksBy fields Fits from fault → LacksBy whole WholeFits text fault
by_fault fields Fits from whole WholeFits text on (Stuck stuck) l = on stuck.left l
by_fault fields Fits from whole WholeFits text on OutOfMemory l = tt
