-- What the writer appends.
use Rattle.std.proofs.Common.{◌≡◌, ℕ, ◌+◌, ◌*◌, ◌<◌, ◌≤◌, true, List, [], ◌∷◌, ◌++◌, length, map, take, get_or, refl, sym, ap, ◌∙◌, subst, arith}
use Rattle.std.proofs.lemmas.List.{append_assoc, append-nil, take_more, map-append}
use Rattle.std.proofs.lemmas.Bool.Decides.{nat_tests}
use Rattle.hex_messages.specs.declared.package.Package.{Package}
use Rattle.hex_messages.specs.declared.package.Release.{Release}
use Rattle.hex_messages.specs.declared.package.Dependency.{Dependency}
use Rattle.hex_messages.specs.declared.package.Retired.{Retired}
use Rattle.hex_messages.specs.Varint.{is_whole}
use Rattle.hex_messages.specs.Fields.{Varint, Field}
use Rattle.hex_messages.specs.Stands.{reason_number}
use Rattle.hex_messages.specs.Canonical.{IsShortest, WritesField, WritesFields, none, more, bytes_field, perhaps, truth_field, WritesDependency, dependency_fields, retired_fields, WritesRelease, release_fields, Writes}
use Rattle.hex_messages.specs.Writing.{AppendsVarint, Appends, AppendsEach, AppendsRetired}
use Rattle.hex_messages.proofs.ValueLemmas.{each_push}

some_byte : (other : List ℕ) → is_whole other ≡ true → 1 ≤ length other
some_byte [] w = absurd cc
some_byte (x ∷ xs) w = omega arith

one_whole : (n : ℕ) → n < 128 → is_whole (n ∷ []) ≡ true
one_whole n h = grind (arith, nat_tests)

pub shortest_one : (n : ℕ) → n < 128 → IsShortest (n ∷ []) n
shortest_one n h = record {
  varint = record { whole = one_whole n h; short = omega arith; value = grind (arith, nat_tests); small = omega arith };
  each = (omega arith, tt);
  shortest = λ other bytes o. some_byte other o.whole;
}

pub appends_none : (old : List ℕ) → Appends old old []
appends_none old = record { text = []; written = none; appended = sym (append-nil old) }

writes_append : {a : List ℕ} {xs : List Field} (b : List ℕ) (ys : List Field) → WritesFields a xs → WritesFields b ys
    → WritesFields (a ++ b) (xs ++ ys)
writes_append b ys none h = h
writes_append b ys (more {front = front} {rest = rest} first others split) h =
    more first (writes_append b ys others h) (ap (λ l. l ++ b) split ∙ append_assoc front rest b)

pub appends_more : (old mid new : List ℕ) (xs ys : List Field) → Appends old mid xs → Appends mid new ys → Appends old new (xs ++ ys)
appends_more old mid new xs ys a b = record {
  text = a.text ++ b.text;
  written = writes_append b.text ys a.written b.written;
  appended = b.appended ∙ (ap (λ l. l ++ b.text) a.appended ∙ append_assoc old a.text b.text);
}

appends_field : (old a b : List ℕ) (key : ℕ) (value : List ℕ) (f : Field) → a ≡ old ++ key ∷ [] → b ≡ a ++ value → WritesField (key ∷ value) f
    → Appends old b (f ∷ [])
appends_field old a b key value f x y w = record {
  text = key ∷ value;
  written = more w none (sym (append-nil (key ∷ value)));
  appended = y ∙ (ap (λ l. l ++ value) x ∙ append_assoc old (key ∷ []) value);
}

pub appends_bytes : (old a b c : List ℕ) (number : ℕ) (bytes : List ℕ) → number ≤ 15 → a ≡ old ++ (number * 8 + 2) ∷ []
    → AppendsVarint a b (length bytes) → c ≡ b ++ bytes → Appends old c (bytes_field number bytes ∷ [])
appends_bytes old a b c number bytes few x v y =
    let joined : c ≡ a ++ (v.text ++ bytes) = y ∙ (ap (λ l. l ++ bytes) v.appended ∙ append_assoc a v.text bytes) in
    appends_field old a c (number * 8 + 2) (v.text ++ bytes) (bytes_field number bytes) x joined
    (record {
      key = (number * 8 + 2) ∷ [];
      value = v.text ++ bytes;
      keyed = shortest_one (number * 8 + 2) (omega arith);
      valued = (v.text, v.shortest, refl);
      split = refl;
    })

number_key : (number : ℕ) → number * 8 + 0 ≡ number * 8
number_key number = omega arith

pub appends_number : (old a b : List ℕ) (number n : ℕ) → number ≤ 15 → a ≡ old ++ (number * 8) ∷ [] → AppendsVarint a b n
    → Appends old b (record { number = number; payload = Varint n } ∷ [])
appends_number old a b number n few x v =
    appends_field old a b (number * 8) v.text (record { number = number; payload = Varint n }) x v.appended
    (record {
      key = (number * 8) ∷ [];
      value = v.text;
      keyed = rw (number_key number) (shortest_one (number * 8) (omega arith));
      valued = v.shortest;
      split = refl;
    })

pub each_none : {A : Type 0} (R : List ℕ → A → Type 0) (number : ℕ) (old : List ℕ) → AppendsEach R number old old []
each_none R number old = record { texts = []; written = tt; appended = appends_none old }

pub each_more : {A : Type 0} (R : List ℕ → A → Type 0) (number : ℕ) (old mid new : List ℕ) (items : List A) (i : ℕ) (item : A) (text : List ℕ)
    → i < length items → item ≡ get_or items i item → AppendsEach R number old mid (take i items) → R text item
    → Appends mid new (bytes_field number text ∷ []) → AppendsEach R number old new (take (i + 1) items)
each_more R number old mid new items i item text h e a r b =
    let t : take (i + 1) items ≡ take i items ++ item ∷ [] = take_more items i item h ∙ ap (λ x. take i items ++ x ∷ []) (sym e) in
    let m : map (bytes_field number) (a.texts ++ text ∷ []) ≡ map (bytes_field number) a.texts ++ bytes_field number text ∷ [] = map-append
    (bytes_field number) a.texts (text ∷ []) in
    record {
      texts = a.texts ++ text ∷ [];
      written = rw t (each_push R a.texts (take i items) text item a.written r);
      appended = rw m (appends_more old mid new (map (bytes_field number) a.texts) (bytes_field number text ∷ []) a.appended b);
    }

pub written : (old new : List ℕ) (fields : List Field) → old ≡ [] → Appends old new fields → WritesFields new fields
written old new fields e a = subst (λ l. WritesFields l fields) (sym (a.appended ∙ ap (λ l. l ++ a.text) e)) a.written

-- one after another, from nothing
pub retired_written : (old a b : List ℕ) (r : Retired) (n : ℕ) → old ≡ [] → n ≡ reason_number r.reason
    → Appends old a (record { number = 1; payload = Varint n } ∷ []) → Appends a b (perhaps 2 r.message) → WritesFields b (retired_fields r)
retired_written old a b r n e q x y =
    written old b (retired_fields r) e (subst (λ k. Appends old b (record { number = 1; payload = Varint k } ∷ perhaps 2 r.message)) q
    (appends_more old a b (record { number = 1; payload = Varint n } ∷ []) (perhaps 2 r.message) x y))

pub dependency_written : (d : Dependency) (v0 v1 v2 v3 v4 v5 : List ℕ) → v0 ≡ [] → Appends v0 v1 (bytes_field 1 d.«package» ∷ [])
    → Appends v1 v2 (bytes_field 2 d.requirement ∷ []) → Appends v2 v3 (truth_field 3 d.optional) → Appends v3 v4 (perhaps 4 d.app)
    → Appends v4 v5 (perhaps 5 d.repository) → WritesDependency v5 d
dependency_written d v0 v1 v2 v3 v4 v5 e a b c x y =
    let f1 = bytes_field 1 d.«package» ∷ [] in
    let f2 = f1 ++ bytes_field 2 d.requirement ∷ [] in
    let f3 = f2 ++ truth_field 3 d.optional in
    let f4 = f3 ++ perhaps 4 d.app in
    let w2 = appends_more v0 v1 v2 f1 (bytes_field 2 d.requirement ∷ []) a b in
    let w3 = appends_more v0 v2 v3 f2 (truth_field 3 d.optional) w2 c in
    let w4 = appends_more v0 v3 v4 f3 (perhaps 4 d.app) w3 x in
    written v0 v5 (dependency_fields d) e (appends_more v0 v4 v5 f4 (perhaps 5 d.repository) w4 y)

pub release_written : (r : Release) (v0 v1 v2 v3 v4 v5 : List ℕ) → v0 ≡ [] → Appends v0 v1 (bytes_field 1 r.version ∷ [])
    → Appends v1 v2 (bytes_field 2 r.inner_checksum ∷ []) → AppendsEach WritesDependency 3 v2 v3 r.dependencies → AppendsRetired v3 v4 r.retired
    → Appends v4 v5 (perhaps 5 r.outer_checksum) → WritesRelease v5 r
release_written r v0 v1 v2 v3 v4 v5 e a b c x y =
    let f1 = bytes_field 1 r.version ∷ [] in
    let f2 = f1 ++ bytes_field 2 r.inner_checksum ∷ [] in
    let f3 = f2 ++ map (bytes_field 3) c.texts in
    let f4 = f3 ++ perhaps 4 x.text in
    let w2 = appends_more v0 v1 v2 f1 (bytes_field 2 r.inner_checksum ∷ []) a b in
    let w3 = appends_more v0 v2 v3 f2 (map (bytes_field 3) c.texts) w2 c.appended in
    let w4 = appends_more v0 v3 v4 f3 (perhaps 4 x.text) w3 x.appended in
    record {
      dependencies = c.texts;
      retired = x.text;
      dependencies_written = c.written;
      retired_written = x.written;
      fields_written = written v0 v5 (release_fields r c.texts x.text) e (appends_more v0 v4 v5 f4 (perhaps 5 r.outer_checksum) w4 y);
    }

pub package_written : (p : Package) (v0 v1 v2 v3 : List ℕ) → v0 ≡ [] → AppendsEach WritesRelease 1 v0 v1 p.releases
    → Appends v1 v2 (bytes_field 2 p.name ∷ []) → Appends v2 v3 (bytes_field 3 p.repository ∷ []) → Writes v3 p
package_written p v0 v1 v2 v3 e a b c =
    let f1 = map (bytes_field 1) a.texts in
    let w2 = appends_more v0 v1 v2 f1 (bytes_field 2 p.name ∷ []) a.appended b in
    let w3 = appends_more v0 v2 v3 (f1 ++ bytes_field 2 p.name ∷ []) (bytes_field 3 p.repository ∷ []) w2 c in
    record {
      releases = a.texts;
      releases_written = a.written;
      fields_written = written v0 v3 (f1 ++ bytes_field 2 p.name ∷ bytes_field 3 p.repository ∷ []) e
          (rw (← append_assoc f1 (bytes_field 2 p.name ∷ []) (bytes_field 3 p.repository ∷ [])) w3);
    }
