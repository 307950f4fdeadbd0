-- What a compiler was given, in two parts.
use Rattle.std.proofs.Common.{◌≡◌, ℕ, ◌+◌, ◌<◌, List, [], ◌∷◌, ◌++◌, length, take, get_or, Option, Some, None, false, true, refl, sym, ◌∙◌, ap}
use Rattle.std.proofs.lemmas.List.{take_more, append_assoc, append-nil}
use Rattle.std.proofs.lemmas.Option.{slice_get-get_or}
use Rattle.compile_model.specs.declared.job.Job.{Job}
use Rattle.compile_model.specs.declared.outcome.Outcome.{Outcome}
use Rattle.compile_model.specs.declared.outcome.Fate.{Fate}
use Rattle.compile_model.specs.Calls.{Call, after_calls, call_at, calls_from, calls_of, calls_to, calls_unless, last_calls}
use Rattle.compile_model.specs.Content.{Content}
use Rattle.compile_model.specs.Seq.{fate_of, first_unbuilt, seq, seq_from}

-- calls, and further ones
pub after_more : (told : Option (List Call)) (calls more : List Call) → after_calls (after_calls told calls) more ≡ after_calls told (calls ++ more)
after_more None calls more = refl
after_more (Some before) calls more = ap Some (append_assoc before calls more)

calls_from-append : (f : Content → Outcome) (fates : List Fate) (xs ys : List Job) → calls_from f fates (xs ++ ys) ≡ calls_from f fates xs ++ calls_from f (seq_from f fates xs) ys
calls_from-append f fates [] ys = refl
calls_from-append f fates (x ∷ xs) ys =
    ap (λ rest. calls_unless (first_unbuilt fates x.needs) (call_at fates x false) ++ rest) (calls_from-append f (fates ++ fate_of f fates x ∷ []) xs ys)
    ∙ sym (append_assoc (calls_unless (first_unbuilt fates x.needs) (call_at fates x false)) (calls_from f (fates ++ fate_of f fates x ∷ []) xs) (calls_from f (seq_from f (fates ++ fate_of f fates x ∷ []) xs) ys))

-- the calls for one job more
pub calls_take_more : (f : Content → Outcome) (jobs : List Job) (i : ℕ) (job : Job) → i < length jobs → job ≡ get_or jobs i job
    → calls_of f (take (i + 1) jobs) ≡ calls_of f (take i jobs) ++ calls_unless (first_unbuilt (seq f (take i jobs)) job.needs) (call_at (seq f (take i jobs)) job false)
calls_take_more f jobs i job h is =
    ap (calls_of f) (take_more jobs i job h ∙ ap (λ (x : Job). take i jobs ++ x ∷ []) (sym is))
    ∙ calls_from-append f [] (take i jobs) (job ∷ [])
    ∙ ap (λ more. calls_of f (take i jobs) ++ more) (append-nil (calls_unless (first_unbuilt (seq f (take i jobs)) job.needs) (call_at (seq f (take i jobs)) job false)))

-- the calls so far, and that for one job more
pub called_more : (f : Content → Outcome) (jobs : List Job) (i : ℕ) (job : Job) (told : Option (List Call)) → i < length jobs → job ≡ get_or jobs i job
    → after_calls (after_calls told (calls_of f (take i jobs))) (calls_unless (first_unbuilt (seq f (take i jobs)) job.needs) (call_at (seq f (take i jobs)) job false)) ≡ after_calls told (calls_of f (take (i + 1) jobs))
called_more f jobs i job told h is = after_more told (calls_of f (take i jobs)) _ ∙ ap (after_calls told) (sym (calls_take_more f jobs i job h is))

-- the compiler died of the job of this place
pub called_to : (f : Content → Outcome) (jobs : List Job) (before now : Option (List Call)) (place : ℕ) (job : Job) → place < length jobs → job ≡ get_or jobs place job
    → now ≡ after_calls (after_calls before (calls_of f (take place jobs))) (call_at (seq f (take place jobs)) job true ∷ []) → now ≡ after_calls before (calls_to f jobs place)
called_to f jobs before now place job below is called =
    called ∙ after_more before (calls_of f (take place jobs)) (call_at (seq f (take place jobs)) job true ∷ [])
    ∙ ap (λ (at : Option Job). after_calls before (calls_of f (take place jobs) ++ last_calls (seq f (take place jobs)) at)) (sym (slice_get-get_or jobs place job below ∙ ap Some (sym is)))
