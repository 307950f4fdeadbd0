-- Entries one after another.
use Rattle.std.proofs.Common.{◌≡◌, List, [], ◌∷◌, ◌++◌, reverse, Result, Ok, Err, refl, sym, ◌∙◌, ap, subst, append_assoc, append-nil, length, arith}
use Rattle.std.proofs.lemmas.List.{reverse-append}
use Rattle.std.specs.Result.{IsErrAnd}
use Rattle.mx_base.specs.Blame.{Blame, AnswersBy}
use Rattle.mx_base.specs.Blame.Blame.{Input}
use Rattle.term_values.specs.declared.term.Term.{Term}
use Rattle.term_values.specs.Views.{Pair}
use Rattle.mix_lock.specs.declared.error.LockError.{LockError}
use Rattle.mix_lock.specs.Lock.{AppEntry}
use Rattle.mix_lock.specs.Says.{IsPair, AreEntries}
use Rattle.mix_lock.specs.Says.AreEntries.{end, refused, later, more}

-- an answer behind these entries
abbrev pub behind : List AppEntry → Result (List AppEntry) LockError → Result (List AppEntry) LockError
behind entries (Ok others) = Ok (entries ++ others)
behind entries (Err e) = Err e

-- what the rest says, given from the last pair to the first, behind the entries so far is what all the pairs say
abbrev pub Continues : List Pair → List Pair → List AppEntry → Type 0
Continues pairs rest entries = (answer : Result (List AppEntry) LockError) → AreEntries (reverse rest) answer → AreEntries pairs (behind entries answer)

behind_none : (answer : Result (List AppEntry) LockError) → behind [] answer ≡ answer
behind_none (Ok others) = refl
behind_none (Err e) = refl

pub continues_first : (pairs rest : List Pair) → reverse rest ≡ pairs → Continues pairs rest []
continues_first pairs rest e answer are =
    let Are : List Pair → Result (List AppEntry) LockError → Type 0 = AreEntries in
    subst (λ (ps : List Pair). Are ps (behind [] answer)) e (subst (Are (reverse rest)) (sym (behind_none answer)) are)

-- the last of the rest comes next
from_last : (rest : List Pair) (key value : Term) → reverse (rest ++ (key, value) ∷ []) ≡ (key, value) ∷ reverse rest
from_last rest key value = reverse-append rest ((key, value) ∷ [])

behind_next : (entries : List AppEntry) (entry : AppEntry) (answer : Result (List AppEntry) LockError)
    → behind entries (behind (entry ∷ []) answer) ≡ behind (entries ++ entry ∷ []) answer
behind_next entries entry (Ok others) =
    let Answer : List AppEntry → Result (List AppEntry) LockError = λ es. Ok es in
    ap Answer (sym (append_assoc entries (entry ∷ []) others))
behind_next entries entry (Err e) = refl

with_first : (key value : Term) (entry : AppEntry) (pairs : List Pair) → IsPair key value (Ok entry)
    → (answer : Result (List AppEntry) LockError) → AreEntries pairs answer
    → AreEntries ((key, value) ∷ pairs) (behind (entry ∷ []) answer)
with_first key value entry pairs is (Ok others) are = more is are
with_first key value entry pairs is (Err e) are = later is are

-- one more pair was read
pub continues_next : (pairs old rest : List Pair) (key value : Term) (entries new : List AppEntry) (entry : AppEntry)
    → old ≡ rest ++ (key, value) ∷ [] → new ≡ entries ++ entry ∷ [] → IsPair key value (Ok entry)
    → Continues pairs old entries → Continues pairs rest new
continues_next pairs old rest key value entries new entry split pushed is on answer are =
    let first : AreEntries (reverse old) (behind (entry ∷ []) answer) =
    subst (λ (ps : List Pair). AreEntries ps (behind (entry ∷ []) answer)) (sym (ap reverse split ∙ from_last rest key value))
    (with_first key value entry (reverse rest) is answer are) in
    subst (λ (es : Result (List AppEntry) LockError). AreEntries pairs es)
    (behind_next entries entry answer ∙ ap (λ (es : List AppEntry). behind es answer) (sym pushed))
    (on (behind (entry ∷ []) answer) first)

-- the next pair is refused
pub continues_refused : (pairs old rest : List Pair) (key value : Term) (entries : List AppEntry) (e : LockError)
    → old ≡ rest ++ (key, value) ∷ [] → IsPair key value (Err e) → Continues pairs old entries
    → AreEntries pairs (Err e)
continues_refused pairs old rest key value entries e split is on =
    on (Err e) (subst (λ (ps : List Pair). AreEntries ps (Err e)) (sym (ap reverse split ∙ from_last rest key value)) (refused is))

-- no pair is left
pub continues_end : (pairs rest : List Pair) (entries : List AppEntry) → rest ≡ [] → Continues pairs rest entries → AreEntries pairs (Ok entries)
continues_end pairs rest entries none on =
    subst (λ (es : List AppEntry). AreEntries pairs (Ok es)) (append-nil entries)
    (on (Ok []) (subst (λ (ps : List Pair). AreEntries (reverse ps) (Ok [])) (sym none) end))

-- what a question mark hands on
pub answers_by_on : {X Y E : Type 0} (seen : X → Y) (blame : E → Blame) (Is : Result Y E → Type 0) (result : Result X E) (error : E)
    → IsErrAnd result (λ e. e ≡ error) → (blame error ≡ Input → Is (Err error)) → AnswersBy seen blame result Is
answers_by_on seen blame Is (Ok x) error is why = absurd is
answers_by_on seen blame Is (Err e) error is why = subst (λ x. blame x ≡ Input → Is (Err x)) (sym is) why

pub nil_of : {A : Type 0} (xs : List A) → length xs ≡ 0 → xs ≡ []
nil_of [] e = refl
nil_of (x ∷ xs) e = absurd (omega arith)
