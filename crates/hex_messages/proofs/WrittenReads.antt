-- The canonical spelling of a package that may be written stands for it.
use Rattle.std.proofs.Common.{◌≡◌, ℕ, ◌≤◌, Bool, true, false, ◌&&◌, not, eqb, Option, Some, None, List, [], ◌∷◌, ◌++◌, map, refl, ap, ◌∙◌, arith}
use Rattle.std.specs.Prelude.{is_some}
use Rattle.std.specs.List.{AllByRecursion}
use Rattle.hex_messages.specs.declared.message.Message.TheVariants as message
use Rattle.hex_messages.specs.declared.error.FieldName.TheVariants as name
use Rattle.hex_messages.specs.declared.package.Package.{Package}
use Rattle.hex_messages.specs.declared.package.Release.{Release}
use Rattle.hex_messages.specs.declared.package.Retired.{Retired}
use Rattle.hex_messages.specs.declared.package.Reason.{Reason as Cause}
use Rattle.hex_messages.specs.declared.package.Reason.TheVariants as cause
use Rattle.hex_messages.specs.Fields.{Varint, Length, Field, Fields}
use Rattle.hex_messages.specs.declared.schema.Kind.TheVariants.{Text, Bytes, Reason, Inner}
use Rattle.hex_messages.specs.Schema.{retired_number}
use Rattle.hex_messages.specs.Good.{AllGood, IsOf, IsWhole, Merged, has}
use Rattle.hex_messages.specs.Good as good
use Rattle.hex_messages.specs.Stands.{later, last_bytes, last_number, all_bytes, reason_number, StandsRetirement, StandsDependency, StandsRelease, Stands}
use Rattle.hex_messages.specs.Canonical.{bytes_field, perhaps, WritesDependency, WritesRetirement, retired_fields, WritesRelease, release_fields, Writes, IsText, IfThere, IsWritableDependency, IsWritableRetirement, IsWritableRelease, IsWritable}
use Rattle.hex_messages.proofs.GoodLemmas.{good_append, whole_retired}
use Rattle.hex_messages.proofs.ValueLemmas.{later_none}
use Rattle.hex_messages.proofs.WrittenFields.{fields_from, all_append, numbered_map, numbered_perhaps, good_one, good_map, good_perhaps, there_text, there_bytes, dependency_reads, each_reads, inner_all, Numbered}

-- a release's fields behind its first two
abbrev tail : List (List ℕ) → Option (List ℕ) → Option (List ℕ) → List Field
tail texts r o = map (bytes_field 3) texts ++ perhaps 4 r ++ perhaps 5 o

record TailValues (texts : List (List ℕ)) (r o : Option (List ℕ)) (fs : List Field) : Type 0 where
  one : last_bytes 1 fs ≡ None
  two : last_bytes 2 fs ≡ None
  three : all_bytes 3 fs ≡ texts
  four : has 4 fs ≡ is_some r
  five : last_bytes 5 fs ≡ o

tail_values : (texts : List (List ℕ)) (r o : Option (List ℕ)) → TailValues texts r o (tail texts r o)
tail_values [] None None = record { one = refl; two = refl; three = refl; four = refl; five = refl }
tail_values [] None (Some o) = record { one = refl; two = refl; three = refl; four = refl; five = refl }
tail_values [] (Some r) None = record { one = refl; two = refl; three = refl; four = refl; five = refl }
tail_values [] (Some r) (Some o) = record { one = refl; two = refl; three = refl; four = refl; five = refl }
tail_values (t ∷ texts) r o =
    let v = tail_values texts r o in
    record {
      one = later_none (last_bytes 1 (tail texts r o)) ∙ v.one;
      two = later_none (last_bytes 2 (tail texts r o)) ∙ v.two;
      three = ap (λ l. t ∷ l) v.three;
      four = v.four;
      five = later_none (last_bytes 5 (tail texts r o)) ∙ v.five;
    }

-- the merged fields of a release's retirement
abbrev retired_in : Option Retired → List Field
retired_in None = []
retired_in (Some r) = retired_fields r ++ []

reason_le : (r : Cause) → reason_number r ≤ 4
reason_le cause.Other = omega arith
reason_le cause.Invalid = omega arith
reason_le cause.Security = omega arith
reason_le cause.Deprecated = omega arith
reason_le cause.Renamed = omega arith

retired_numbered : (r : Retired) → AllByRecursion Numbered (retired_fields r)
retired_numbered r = ((omega arith, omega arith), numbered_perhaps 2 r.message (omega arith) (omega arith))

retired_good : (r : Retired) → IfThere IsText r.message → AllGood message.Retired (retired_fields r)
retired_good r w =
    good.known {k = record { name = name.Reason; kind = Reason }} refl (good.reason (reason_le r.reason))
    (good_perhaps message.Retired 2 (record { name = name.Message; kind = Text }) r.message refl (there_text r.message w))

outer_merged : (o : Option (List ℕ)) → Merged (perhaps 5 o) []
outer_merged None = good.none
outer_merged (Some b) = good.other (λ e. let f : false ≡ true = ap (λ (n : ℕ). eqb n 4) e in absurd cc) good.none

tail_merged : (texts : List (List ℕ)) (text : Option (List ℕ)) (r : Option Retired) (o : Option (List ℕ)) → WritesRetirement text r
    → Merged (tail texts text o) (retired_in r)
tail_merged [] None None o w = outer_merged o
tail_merged [] None (Some r) o w = absurd w
tail_merged [] (Some b) None o w = absurd w
tail_merged [] (Some b) (Some r) o w = good.retired (fields_from (retired_numbered r) w) (outer_merged o)
tail_merged (t ∷ texts) text r o w = good.other (λ e. let f : false ≡ true = ap (λ (n : ℕ). eqb n 4) e in absurd cc) (tail_merged texts text r o w)

retired_values : (x : ℕ) (m : Option (List ℕ))
    → (last_number 1 (record { number = 1; payload = Varint x } ∷ perhaps 2 m ++ []) ≡ Some x) ×
    (last_bytes 2 (record { number = 1; payload = Varint x } ∷ perhaps 2 m ++ []) ≡ m)
retired_values x None = (refl, refl)
retired_values x (Some b) = (refl, refl)

retired_stands : (b : Bool) (text : Option (List ℕ)) (r : Option Retired) → b ≡ is_some text → WritesRetirement text r
    → StandsRetirement b (retired_in r) r
retired_stands b None None e w = rw e refl
retired_stands b None (Some r) e w = absurd w
retired_stands b (Some t) None e w = absurd w
retired_stands b (Some t) (Some r) e w = let v = retired_values (reason_number r.reason) r.message in rw e (record { reason = v.0; message = v.1 })

reason_met : (b : Bool) (text : Option (List ℕ)) (r : Option Retired) → b ≡ is_some text → WritesRetirement text r
    → (b && not (has 1 (retired_in r))) ≡ false
reason_met b None None e w = rw e refl
reason_met b None (Some r) e w = absurd w
reason_met b (Some t) None e w = absurd w
reason_met b (Some t) (Some r) e w = rw e refl

there_retired : (text : Option (List ℕ)) (r : Option Retired) → WritesRetirement text r → IsWritableRetirement r
    → IfThere (λ t. IsOf (Inner message.Retired) (Length t)) text
there_retired None None w h = tt
there_retired None (Some r) w h = absurd w
there_retired (Some t) None w h = absurd w
there_retired (Some t) (Some r) w h = good.inner (whole_retired t (retired_fields r) (fields_from (retired_numbered r) w) (retired_good r h))

release_numbered : (r : Release) (texts : List (List ℕ)) (text : Option (List ℕ)) → AllByRecursion Numbered (release_fields r texts text)
release_numbered r texts text =
    let front = bytes_field 1 r.version ∷ bytes_field 2 r.inner_checksum ∷ map (bytes_field 3) texts in
    let n1 : AllByRecursion Numbered front =
    ((omega arith, omega arith), ((omega arith, omega arith), numbered_map 3 texts (omega arith) (omega arith))) in
    all_append Numbered (front ++ perhaps 4 text) (perhaps 5 r.outer_checksum)
    (all_append Numbered front (perhaps 4 text) n1 (numbered_perhaps 4 text (omega arith) (omega arith)))
    (numbered_perhaps 5 r.outer_checksum (omega arith) (omega arith))

release_reads : (t : List ℕ) (r : Release) → WritesRelease t r → IsWritableRelease r → StandsRelease t r × IsWhole message.Release t
release_reads t r h w =
    let fs = release_fields r h.dependencies h.retired in
    let v = tail_values h.dependencies h.retired r.outer_checksum in
    let s : Fields t fs = fields_from (release_numbered r h.dependencies h.retired) h.fields_written in
    let d = each_reads WritesDependency StandsDependency IsWritableDependency (IsWhole message.Dependency) h.dependencies r.dependencies
    dependency_reads h.dependencies_written w.dependencies in
    let g1 = good_one message.Release 1 (record { name = name.Version; kind = Text }) r.version refl (good.text w.version.0) in
    let g2 = good_one message.Release 2 (record { name = name.InnerChecksum; kind = Bytes }) r.inner_checksum refl good.bytes in
    let g3 = good_map message.Release 3 (record { name = name.Dependencies; kind = Inner message.Dependency }) h.dependencies refl
    (inner_all message.Dependency h.dependencies d.1) in
    let g4 = good_perhaps message.Release 4 (record { name = name.Retired; kind = Inner message.Retired }) h.retired refl
    (there_retired h.retired r.retired h.retired_written w.retired) in
    let g5 = good_perhaps message.Release 5 (record { name = name.OuterChecksum; kind = Bytes }) r.outer_checksum refl (there_bytes r.outer_checksum)
    in
    let g : AllGood message.Release fs = good_append (perhaps 5 r.outer_checksum)
    (good_append (perhaps 4 h.retired)
    (good_append (map (bytes_field 3) h.dependencies) (good_append (bytes_field 2 r.inner_checksum ∷ []) g1 g2) g3) g4) g5 in
    let one : last_bytes 1 fs ≡ Some r.version = rw v.one refl in
    let two : last_bytes 2 fs ≡ Some r.inner_checksum = rw v.two refl in
    let five : last_bytes 5 fs ≡ r.outer_checksum = later_none (later None (last_bytes 5 (tail h.dependencies h.retired r.outer_checksum)))
    ∙ (later_none (last_bytes 5 (tail h.dependencies h.retired r.outer_checksum)) ∙ v.five) in
    let m : Merged fs (retired_in r.retired) = good.other (λ e. let f : false ≡ true = ap (λ (n : ℕ). eqb n 4) e in absurd cc)
    (good.other (λ e. let f : false ≡ true = ap (λ (n : ℕ). eqb n 4) e in absurd cc)
    (tail_merged h.dependencies h.retired r.retired r.outer_checksum h.retired_written)) in
    let z : (has 4 fs && not (has 1 (retired_in r.retired))) ≡ false = reason_met (has 4 fs) h.retired r.retired v.four h.retired_written in (
      record {
        fields = fs;
        merged = retired_in r.retired;
        spelled = s;
        good = g;
        merges = m;
        version = one;
        inner_checksum = two;
        dependencies = rw v.three d.0;
        retired = retired_stands (has retired_number fs) h.retired r.retired v.four h.retired_written;
        outer_checksum = five;
      },
      good.whole s g (record { merged = retired_in r.retired; merges = λ e. m; answers = rw z refl }),
    )

record PackageValues (texts : List (List ℕ)) (n r : List ℕ) (fs : List Field) : Type 0 where
  one : all_bytes 1 fs ≡ texts
  two : last_bytes 2 fs ≡ Some n
  three : last_bytes 3 fs ≡ Some r

package_values : (texts : List (List ℕ)) (n r : List ℕ)
    → PackageValues texts n r (map (bytes_field 1) texts ++ bytes_field 2 n ∷ bytes_field 3 r ∷ [])
package_values [] n r = record { one = refl; two = refl; three = refl }
package_values (t ∷ texts) n r =
    let v = package_values texts n r in
    let fs = map (bytes_field 1) texts ++ bytes_field 2 n ∷ bytes_field 3 r ∷ [] in
    record { one = ap (λ l. t ∷ l) v.one; two = later_none (last_bytes 2 fs) ∙ v.two; three = later_none (last_bytes 3 fs) ∙ v.three }

pub written_reads : (p : Package) (bytes : List ℕ) → IsWritable p → Writes bytes p → Stands bytes p
written_reads p bytes w h =
    let ends = bytes_field 2 p.name ∷ bytes_field 3 p.repository ∷ [] in
    let fs = map (bytes_field 1) h.releases ++ ends in
    let v = package_values h.releases p.name p.repository in
    let n : AllByRecursion Numbered fs = all_append Numbered (map (bytes_field 1) h.releases) ends
    (numbered_map 1 h.releases (omega arith) (omega arith)) ((omega arith, omega arith), ((omega arith, omega arith), tt)) in
    let d = each_reads WritesRelease StandsRelease IsWritableRelease (IsWhole message.Release) h.releases p.releases release_reads h.releases_written
    w.releases in
    let g1 = good_map message.Package 1 (record { name = name.Releases; kind = Inner message.Release }) h.releases refl
    (inner_all message.Release h.releases d.1) in
    let g2 = good_one message.Package 2 (record { name = name.Name; kind = Text }) p.name refl (good.text w.name.0) in
    let g3 = good_one message.Package 3 (record { name = name.Repository; kind = Text }) p.repository refl (good.text w.repository.0) in
    let g : AllGood message.Package fs = good_append ends g1 (good_append (bytes_field 3 p.repository ∷ []) g2 g3) in
    record { fields = fs; spelled = fields_from n h.fields_written; good = g; releases = rw v.one d.0; name = v.two; repository = v.three }
