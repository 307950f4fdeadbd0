-- Reports, of one place more.
use Rattle.std.proofs.Common.{◌≡◌, ℕ, zero, suc, ◌<◌, ◌==◌, Bool, true, false, cond, List, [], ◌∷◌, ◌++◌, length, map, find, get_or, Option, Some, None, is_some, option_map, slice_get, refl, sym, ◌∙◌, ap, arith, eq-eqb}
use Rattle.std.specs.Option.{option_and_then}
use Rattle.std.proofs.lemmas.Bool.{ne_eqb}
use Rattle.build_manifest.specs.Mark.{MarkView}
use Rattle.staleness.specs.declared.why.Why.{Why}
use Rattle.staleness.specs.Report.{why_at, standing_digest, marked_digest}

later_row : (report more : List (ℕ × Why)) (row : ℕ × Why) (p : ℕ) → why_at more p ≡ why_at report p → (t : Bool) →
    option_map (λ (r : ℕ × Why). r.1) (cond t (Some row) (find (λ (r : ℕ × Why). r.0 == p) more))
    ≡ option_map (λ (r : ℕ × Why). r.1) (cond t (Some row) (find (λ (r : ℕ × Why). r.0 == p) report))
later_row report more row p rest true = refl
later_row report more row p rest false = rest

-- another place of one row more
pub why_at_other : (report : List (ℕ × Why)) (place p : ℕ) (why : Why) → (p ≡ place → ⊥) → why_at (report ++ (place, why) ∷ []) p ≡ why_at report p
why_at_other [] place p why apart =
    ap (λ (t : Bool). option_map (λ (row : ℕ × Why). row.1) (cond t (Some (place, why)) None)) (ne_eqb place p (λ e. apart (sym e)))
why_at_other (row ∷ report) place p why apart =
    later_row report (report ++ (place, why) ∷ []) row p (why_at_other report place p why apart) (row.0 == p)

-- what isn't listed stands in no row
unlisted : (report : List (ℕ × Why)) (row : ℕ × Why) (p : ℕ) → why_at (row ∷ report) p ≡ None → ((row.0 == p) ≡ false) × (why_at report p ≡ None)
unlisted report row p e = by_test (row.0 == p) refl e
  where
    by_test : (t : Bool) → (row.0 == p) ≡ t → option_map (λ (r : ℕ × Why). r.1) (cond t (Some row) (find (λ (r : ℕ × Why). r.0 == p) report)) ≡ None
        → ((row.0 == p) ≡ false) × (why_at report p ≡ None)
    by_test true is h = cc
    by_test false is h = (is, h)

-- the place of one row more
pub why_at_same : (report : List (ℕ × Why)) (place : ℕ) (why : Why) → why_at report place ≡ None → why_at (report ++ (place, why) ∷ []) place ≡ Some why
why_at_same [] place why e = ap (λ (t : Bool). option_map (λ (row : ℕ × Why). row.1) (cond t (Some (place, why)) None)) (eq-eqb place place refl)
why_at_same (row ∷ report) place why e =
    let parts = unlisted report row place e in
    ap (λ (t : Bool). option_map (λ (r : ℕ × Why). r.1) (cond t (Some row) (find (λ (r : ℕ × Why). r.0 == place) (report ++ (place, why) ∷ [])))) parts.0
    ∙ why_at_same report place why parts.1

-- a row of a report is of a place that it lists
pub listed_row : (report : List (ℕ × Why)) (k : ℕ) (d : ℕ × Why) → k < length report → why_at report (get_or report k d).0 ≡ None → ⊥
listed_row [] k d h e = omega arith
listed_row (row ∷ report) zero d h e =
    let here : why_at (row ∷ report) row.0 ≡ Some row.1 =
    ap (λ (t : Bool). option_map (λ (r : ℕ × Why). r.1) (cond t (Some row) (find (λ (r : ℕ × Why). r.0 == row.0) report))) (eq-eqb row.0 row.0 refl) in cc
listed_row (row ∷ report) (suc k) d h e = listed_row report k d (omega arith) (unlisted report row (get_or report k d).0 e).1

pub digest_same : (report other : List (ℕ × Why)) (marks : List (Option MarkView)) (p : ℕ) → why_at other p ≡ why_at report p →
    standing_digest other marks p ≡ standing_digest report marks p
digest_same report other marks p e = ap (λ (why : Option Why). cond (is_some why) None (option_and_then marked_digest (slice_get marks p))) e

pub digests_same : (report other : List (ℕ × Why)) (marks : List (Option MarkView)) (needs : List ℕ) →
    ((k : ℕ) → k < length needs → why_at other (get_or needs k 0) ≡ why_at report (get_or needs k 0)) →
    map (standing_digest other marks) needs ≡ map (standing_digest report marks) needs
digests_same report other marks [] same = refl
digests_same report other marks (need ∷ needs) same =
    ap (λ (d : Option (List ℕ)). d ∷ map (standing_digest other marks) needs) (digest_same report other marks need (same 0 (omega arith)))
    ∙ ap (λ (ds : List (Option (List ℕ))). standing_digest report marks need ∷ ds) (digests_same report other marks needs (λ k h. same (suc k) (omega arith)))
