-- A report of the places so far.
use Rattle.std.proofs.Common.{◌≡◌, ℕ, suc, ◌+◌, ◌<◌, ◌≤◌, inl, inr, cond, List, [], ◌∷◌, ◌++◌, length, map, get_or, Option, Some, None, is_some, slice_get, refl, sym, ◌∙◌, ap, subst, arith}
use Rattle.std.specs.List.{All, AllPairs}
use Rattle.std.specs.Option.{option_and_then}
use Rattle.std.proofs.lemmas.Bool.{cases_eq, cases_lt}
use Rattle.std.proofs.lemmas.List.{length_push, get_or_push, get_or_append_left}
use Rattle.std.proofs.lemmas.List.Quantifiers.{all_pairs_push}
use Rattle.std.proofs.lemmas.Option.{slice_get-get_or, slice_get_within}
use Rattle.compile_model.specs.declared.job.Job.{Job}
use Rattle.compile_model.specs.Planned.{ArePlanned}
use Rattle.build_manifest.specs.Mark.{MarkView}
use Rattle.staleness.specs.declared.why.Why.{Why}
use Rattle.staleness.specs.Report.{why_at, standing_digest, marked_digest, digest_at, IsWhy, IsStaleReport, with_reason}
use Rattle.staleness.proofs.ReportLemmas.{why_at_other, why_at_same, listed_row, digest_same, digests_same}

-- the report of the places before this one, and the digests that stand for them
pub record IsSoFar (jobs : List Job) (marks : List (Option MarkView)) (place : ℕ) (report : List (ℕ × Why)) (digests : List (Option (List ℕ))) : Type 0 where
  pub in_order : AllPairs (λ one other. one.0 < other.0) report
  pub below : (p : ℕ) → place ≤ p → why_at report p ≡ None
  pub long : length digests ≡ place
  pub told : (p : ℕ) → p < place → digest_at digests p ≡ standing_digest report marks p
  pub each : (p : ℕ) (job : Job) (mark : Option MarkView) → p < place → slice_get jobs p ≡ Some job → slice_get marks p ≡ Some mark
      → IsWhy (map (standing_digest report marks) job.needs) job mark (why_at report p)

pub nothing_yet : (jobs : List Job) (marks : List (Option MarkView)) → IsSoFar jobs marks 0 [] []
nothing_yet jobs marks = record {
  in_order = λ i j d e below. absurd (omega arith);
  below = λ p h. refl;
  long = refl;
  told = λ p h. absurd (omega arith);
  each = λ p job mark h. absurd (omega arith);
}

pub whole : (jobs : List Job) (marks : List (Option MarkView)) (report : List (ℕ × Why)) (digests : List (Option (List ℕ))) → length marks ≡ length jobs →
    IsSoFar jobs marks (length jobs) report digests → IsStaleReport jobs marks report
whole jobs marks report digests long is = record {
  in_order = is.in_order;
  within = is.below;
  each = λ p job mark here there. is.each p job mark (slice_get_within jobs p job here) here there;
}

digest_pushed : (digests : List (Option (List ℕ))) (digest : Option (List ℕ)) (p : ℕ) → p < length digests →
    digest_at (digests ++ digest ∷ []) p ≡ digest_at digests p
digest_pushed digests digest p within =
    let longer = length_push digests digest in
    ap (option_and_then (λ (d : Option (List ℕ)). d))
    (slice_get-get_or (digests ++ digest ∷ []) p None (omega arith)
    ∙ ap Some (get_or_append_left digests (digest ∷ []) None p within)
    ∙ sym (slice_get-get_or digests p None within))

digest_last : (digests : List (Option (List ℕ))) (digest : Option (List ℕ)) (p : ℕ) → length digests ≡ p → digest_at (digests ++ digest ∷ []) p ≡ digest
digest_last digests digest p is =
    let longer = length_push digests digest in
    ap (option_and_then (λ (d : Option (List ℕ)). d))
    (slice_get-get_or (digests ++ digest ∷ []) p None (omega arith) ∙ ap Some (get_or_push digests digest None p is))

-- what stands for the needs of a place, by the digests so far
told_needs : (jobs : List Job) (marks : List (Option MarkView)) (place : ℕ) (report : List (ℕ × Why)) (digests : List (Option (List ℕ))) →
    IsSoFar jobs marks place report digests → (needs : List ℕ) → ((k : ℕ) → k < length needs → get_or needs k 0 < place) →
    map (digest_at digests) needs ≡ map (standing_digest report marks) needs
told_needs jobs marks place report digests is [] before = refl
told_needs jobs marks place report digests is (need ∷ needs) before =
    ap (λ (d : Option (List ℕ)). d ∷ map (digest_at digests) needs) (is.told need (before 0 (omega arith)))
    ∙ ap (λ (ds : List (Option (List ℕ))). standing_digest report marks need ∷ ds)
    (told_needs jobs marks place report digests is needs (λ k h. before (suc k) (omega arith)))

-- one place more, where the report says the same of all others
one_more : (jobs : List Job) (marks : List (Option MarkView)) (place : ℕ) (report other : List (ℕ × Why)) (digests : List (Option (List ℕ)))
    (digest : Option (List ℕ))
    (job : Job) (mark : Option MarkView) → ArePlanned jobs → IsSoFar jobs marks place report digests → slice_get jobs place ≡ Some job →
    slice_get marks place ≡ Some mark →
    AllPairs (λ one other. one.0 < other.0) other → ((p : ℕ) → (p ≡ place → ⊥) → why_at other p ≡ why_at report p) →
    digest ≡ standing_digest other marks place →
    IsWhy (map (digest_at digests) job.needs) job mark (why_at other place) → IsSoFar jobs marks (place + 1) other (digests ++ digest ∷ [])
one_more jobs marks place report other digests digest job mark planned is here there in_order same stands why = record {
  in_order = in_order;
  below = λ p h. same p (λ e. omega arith) ∙ is.below p (omega arith);
  long = length_push digests digest ∙ ap (λ (n : ℕ). n + 1) is.long;
  told = λ p h. elim (cases_eq p place) [
    | inl e ↦ digest_last digests digest p (is.long ∙ sym e) ∙ stands ∙ ap (standing_digest other marks) (sym e)
    | inr apart ↦
        digest_pushed digests digest p (let long = is.long in omega arith) ∙ is.told p (omega arith)
        ∙ sym (digest_same report other marks p (same p apart))
  ];
  each = λ p j m h at_job at_mark. elim (cases_eq p place) [
    | inl e ↦
        let f : Some j ≡ Some job = sym at_job ∙ ap (slice_get jobs) e ∙ here in
        let g : Some m ≡ Some mark = sym at_mark ∙ ap (slice_get marks) e ∙ there in
        let same_job : j ≡ job = cc in
        let same_mark : m ≡ mark = cc in
        subst (λ (q : ℕ). IsWhy (map (standing_digest other marks) j.needs) j m (why_at other q)) (sym e)
        (subst (λ (n : Option MarkView). IsWhy (map (standing_digest other marks) j.needs) j n (why_at other place)) (sym same_mark)
        (subst (λ (k : Job). IsWhy (map (standing_digest other marks) k.needs) k mark (why_at other place)) (sym same_job) by_report))
    | inr apart ↦
        let before = (planned.needs p j at_job).before in
        subst (λ (why : Option Why). IsWhy (map (standing_digest other marks) j.needs) j m why) (sym (same p apart))
        (subst (λ (ds : List (Option (List ℕ))). IsWhy ds j m (why_at report p))
        (sym (digests_same report other marks j.needs (λ k within. let low = before k 0 within in same (get_or j.needs k 0) (λ e. omega arith))))
        (is.each p j m (omega arith) at_job at_mark))
  ];
}
  where
    low : (k : ℕ) → k < length job.needs → get_or job.needs k 0 < place
    low k within = (planned.needs place job here).before k 0 within

    by_report : IsWhy (map (standing_digest other marks) job.needs) job mark (why_at other place)
    by_report =
        subst (λ (ds : List (Option (List ℕ))). IsWhy ds job mark (why_at other place))
        (told_needs jobs marks place report digests is job.needs low
        ∙ sym (digests_same report other marks job.needs (λ k within. let h = low k within in same (get_or job.needs k 0) (λ e. omega arith)))) why

-- a place that is listed
pub listed_more : (jobs : List Job) (marks : List (Option MarkView)) (place : ℕ) (report : List (ℕ × Why)) (digests : List (Option (List ℕ))) (job : Job)
    (mark : Option MarkView) (why : Why) → ArePlanned jobs → IsSoFar jobs marks place report digests → slice_get jobs place ≡ Some job →
    slice_get marks place ≡ Some mark →
    IsWhy (map (digest_at digests) job.needs) job mark (Some why) → IsSoFar jobs marks (place + 1) (report ++ (place, why) ∷ []) (digests ++ None ∷ [])
listed_more jobs marks place report digests job mark why planned is here there reason =
    let listed : why_at (report ++ (place, why) ∷ []) place ≡ Some why = why_at_same report place why (is.below place (omega arith)) in
    one_more jobs marks place report (report ++ (place, why) ∷ []) digests None job mark planned is here there
    (all_pairs_push (λ (one other : ℕ × Why). one.0 < other.0) report (place, why) is.in_order
    (λ k d h. elim (cases_lt (get_or report k d).0 place) [
      | inl less ↦ less
      | inr up ↦ absurd (listed_row report k d h (is.below (get_or report k d).0 up))
    ]))
    (λ p apart. why_at_other report place p why apart)
    (sym (ap (λ (w : Option Why). cond (is_some w) None (option_and_then marked_digest (slice_get marks place))) listed))
    (subst (λ (w : Option Why). IsWhy (map (digest_at digests) job.needs) job mark w) (sym listed) reason)

-- a place that isn't
pub kept_more : (jobs : List Job) (marks : List (Option MarkView)) (place : ℕ) (report : List (ℕ × Why)) (digests : List (Option (List ℕ)))
    (digest : Option (List ℕ)) (job : Job)
    (mark : Option MarkView) → ArePlanned jobs → IsSoFar jobs marks place report digests → slice_get jobs place ≡ Some job → slice_get marks place ≡ Some mark →
    IsWhy (map (digest_at digests) job.needs) job mark None → digest ≡ marked_digest mark → IsSoFar jobs marks (place + 1) report (digests ++ digest ∷ [])
kept_more jobs marks place report digests digest job mark planned is here there reason marked =
    let unlisted : why_at report place ≡ None = is.below place (omega arith) in
    one_more jobs marks place report report digests digest job mark planned is here there is.in_order (λ p apart. refl)
    (marked
    ∙ sym (ap (λ (w : Option Why). cond (is_some w) None (option_and_then marked_digest (slice_get marks place))) unlisted
    ∙ ap (option_and_then marked_digest) there))
    (subst (λ (w : Option Why). IsWhy (map (digest_at digests) job.needs) job mark w) (sym unlisted) reason)

-- the reason of a place, if it has one, and what stands for it
pub reason_more : (jobs : List Job) (marks : List (Option MarkView)) (place : ℕ) (report more : List (ℕ × Why)) (digests others : List (Option (List ℕ)))
    (digest : Option (List ℕ)) (job : Job) (mark : Option MarkView) (reason : Option Why) → ArePlanned jobs → IsSoFar jobs marks place report digests →
    slice_get jobs place ≡ Some job → slice_get marks place ≡ Some mark → IsWhy (map (digest_at digests) job.needs) job mark reason →
    digest ≡ cond (is_some reason) None (marked_digest mark) → more ≡ with_reason report place reason → others ≡ digests ++ digest ∷ [] →
    IsSoFar jobs marks (place + 1) more others
reason_more jobs marks place report more digests others digest job mark None planned is here there why stands e f =
    subst (λ (rs : List (ℕ × Why)). IsSoFar jobs marks (place + 1) rs others) (sym e)
    (subst (IsSoFar jobs marks (place + 1) report) (sym f) (kept_more jobs marks place report digests digest job mark planned is here there why stands))
reason_more jobs marks place report more digests others digest job mark (Some reason) planned is here there why stands e f =
    subst (λ (rs : List (ℕ × Why)). IsSoFar jobs marks (place + 1) rs others) (sym e)
    (subst (IsSoFar jobs marks (place + 1) (report ++ (place, reason) ∷ []))
    (sym (f ∙ ap (λ (d : Option (List ℕ)). digests ++ d ∷ []) stands))
    (listed_more jobs marks place report digests job mark reason planned is here there why))

-- needs are places that were reported
pub needs_before : (jobs items : List Job) (place count : ℕ) (job : Job) → ArePlanned jobs → items ≡ jobs → place < length items →
    job ≡ get_or items place job →
    count ≡ place → All (λ need. need < count) job.needs
needs_before jobs items place count job planned e within is long k d h =
    let there : slice_get jobs place ≡ Some job =
    ap (λ (js : List Job). slice_get js place) (sym e) ∙ slice_get-get_or items place job within ∙ ap Some (sym is) in
    let low = (planned.needs place job there).before k d h in omega arith

-- one place more, as the loop reads it
pub place_more : (jobs items : List Job) (marks : List (Option MarkView)) (place : ℕ) (report more : List (ℕ × Why))
    (digests seen others : List (Option (List ℕ)))
    (digest : Option (List ℕ)) (job : Job) (mark : Option MarkView) (reason : Option Why) → ArePlanned jobs → items ≡ jobs → length marks ≡ length jobs →
    IsSoFar jobs marks place report digests → place < length items → job ≡ get_or items place job → mark ≡ get_or marks place mark → seen ≡ digests →
    IsWhy (map (digest_at seen) job.needs) job mark reason → digest ≡ cond (is_some reason) None (marked_digest mark) → more ≡ with_reason report place reason →
    others ≡ digests ++ digest ∷ [] → IsSoFar jobs marks (place + 1) more others
place_more jobs items marks place report more digests seen others digest job mark reason planned e long so_far within is marked f why stands g h =
    let same : length items ≡ length jobs = ap length e in
    reason_more jobs marks place report more digests others digest job mark reason planned so_far
    (ap (λ (js : List Job). slice_get js place) (sym e) ∙ slice_get-get_or items place job within ∙ ap Some (sym is))
    (slice_get-get_or marks place mark (omega arith) ∙ ap Some (sym marked))
    (subst (λ (ds : List (Option (List ℕ))). IsWhy (map (digest_at ds) job.needs) job mark reason) f why) stands g h

pub whole_at : (jobs : List Job) (marks : List (Option MarkView)) (place : ℕ) (report : List (ℕ × Why)) (digests : List (Option (List ℕ))) →
    length marks ≡ length jobs →
    place ≡ length jobs → IsSoFar jobs marks place report digests → IsStaleReport jobs marks report
whole_at jobs marks place report digests long e is =
    whole jobs marks report digests long (subst (λ (n : ℕ). IsSoFar jobs marks n report digests) e is)
