-- Each text spells a term within the limits, or is refused.
use Rattle.std.specs.Prelude.{IsFalse, zero}
use Rattle.std.proofs.Common.{◌≡◌, ℕ, suc, ◌+◌, ◌<◌, ◌≤◌, ◌⊎◌, inl, inr, Bool, true, false, List, [], ◌∷◌, length, take, refl, sym, ap, ◌∙◌, subst, arith, ⊎_elim}
use Rattle.std.specs.Str.{IsUtf8, IsValidUpTo, is_utf8}
use Rattle.std.proofs.lemmas.Bool.{cases_lt, true≢false}
use Rattle.std.proofs.lemmas.List.{take_all}
use Rattle.std.proofs.lemmas.Str.{IsUtf8-from_is_utf8, is_utf8-from_IsUtf8, IsUtf8-nil}
use Rattle.term_tokens.specs.declared.cause.TermCause.{TermCause}
use Rattle.term_tokens.specs.declared.cause.TermCause.TheVariants as cause
use Rattle.elixir_terms.specs.declared.error.TermError.{TermError}
use Rattle.elixir_terms.specs.declared.state.State.{State}
use Rattle.elixir_terms.specs.declared.state.State.TheVariants as state
use Rattle.term_values.specs.declared.term.Term.{Term}
use Rattle.term_tokens.specs.declared.token.Token.{Token}
use Rattle.term_tokens.specs.Refused.{is_memory}
use Rattle.term_print.specs.Spells.{Spells}
use Rattle.elixir_terms.specs.Machine.{expected, HasLevels, NewKeyword}
use Rattle.elixir_terms.specs.Reading.{noted, Stands, Moves, HasRoomAt, Stops, trailing, lexed, deep, deep_words, again}
use Rattle.elixir_terms.specs.Refusals.{IsRefusal, long, utf8}
use Rattle.elixir_terms.specs.Within.{deepest, longest, Within}
use Rattle.term_tokens.proofs.SomeLemmas.{First, starts, faulty, some_first, some_rest}
use Rattle.term_tokens.proofs.TokenLaws.{begins_shorter}
use Rattle.elixir_terms.proofs.FreshKeys.{start_good, trail_good}
use Rattle.elixir_terms.proofs.KeptLemmas.{StateFits}
use Rattle.elixir_terms.proofs.OpenLemmas.{start}
use Rattle.elixir_terms.proofs.PlaceLemmas.{blanks_shorter}
use Rattle.elixir_terms.proofs.PrefixLemmas.{start_sound, trail_sound, takes_steps}
use Rattle.elixir_terms.proofs.KeywordRefusals.{Reads, reads_done, reads_open}
use Rattle.elixir_terms.proofs.ReaderLemmas.{Loop, Noted, loop_first, loop_noted, loop_reads, loop_next, loop_again, stops_refusal}
use Rattle.elixir_terms.proofs.RefusalLaws.{not_memory}
use Rattle.elixir_terms.proofs.SnagLemmas.{NotDone}
use Rattle.elixir_terms.proofs.DecideLemmas.{Refused, Answer, done_or, levels_or, keyword_or, entry_or, no_outer_key, room_or}

-- one token: it leads on, or the text is refused

record Next (s : State) (rest : List ℕ) : Type 0 where
  state_ : State
  after : List ℕ
  moves : Moves s rest state_ after

abbrev Goes : List ℕ → State → List ℕ → Type 0
Goes text s rest = Next s rest ⊎ Refused text

record Given (text : List ℕ) (s : State) (rest : List ℕ) : Type 0 where
  short : length text ≤ longest
  valid : IsUtf8 text
  reads : Reads text s rest
  some : rest ≡ [] → ⊥

stopped : {text : List ℕ} {s : State} {rest : List ℕ} → Given text s rest → (k left : ℕ) (why : TermCause) → left + k ≡ length rest → Stops s rest k why → Goes text s rest
stopped {text = text} {s = s} {rest = rest} g k left why sum stops =
    let r = stops_refusal text s rest k left why g.short g.valid g.reads g.some sum stops in
    inr (r.0, why, r.2)

at_once : {text : List ℕ} {s : State} {rest : List ℕ} → Given text s rest → (why : TermCause) → Stops s rest 0 why → Goes text s rest
at_once {rest = rest} g why stops = stopped g 0 (length rest) why (omega arith) stops

by_token : {text : List ℕ} {s : State} {rest : List ℕ} → Given text s rest → (tok : Token) (after : List ℕ) → Stands s rest tok after → HasLevels s tok → NewKeyword s tok → Goes text s rest
by_token {s = s} g tok after stands levels new =
    let n = takes_steps (deepest + 0) s tok (trail_sound g.reads.trail start_sound 0) stands.taken in
    inl (record { state_ = n.0; after = after; moves = record { token = tok; stands = stands; levels = levels; stepped = n.1; new = new } })

by_first : {text : List ℕ} {s : State} {rest : List ℕ} → Given text s rest → StateFits s → NotDone s → HasRoomAt s rest → First (expected s) rest → Goes text s rest
by_first g fit open_ room (faulty k left why sum first) = stopped g k left why sum (lexed open_ room first)
by_first {s = s} {rest = rest} g fit open_ room (starts tok after begins taken narrow free whole) =
    let stands : Stands s rest tok after = record { begins = begins; taken = taken; narrow = narrow; free = free; whole = whole } in
    ⊎_elim
    (λ levels. ⊎_elim (λ new. by_token g tok after stands levels new) (λ old. at_once g cause.DuplicateKey (again tok stands levels old)) (keyword_or s tok))
    (λ lacks. at_once g cause.TooDeep (deep tok stands lacks))
    (levels_or s tok fit)

goes : {text : List ℕ} {s : State} {rest : List ℕ} → Given text s rest → Goes text s rest
goes {s = s} {rest = rest} g =
    let fit = (trail_good g.reads.trail start_good).fit in
    ⊎_elim
    (λ (d : (t : Term) × (s ≡ state.Done t)). at_once g cause.TrailingText (trailing d.0 d.1))
    (λ open_. ⊎_elim
    (λ room. by_first g fit open_ room (some_first (expected s) rest (no_outer_key s)))
    (λ words. at_once g cause.TooDeep (deep_words words.0 words.1 words.2 words.3))
    (room_or s rest fit))
    (done_or s)

-- all tokens

ended : (text : List ℕ) (s : State) → length text ≤ longest → IsUtf8 text → Reads text s [] → Answer text
ended text s short valid r =
    ⊎_elim
    (λ (d : (t : Term) × (s ≡ state.Done t)). let a = reads_done text [] s d.0 short valid r d.1 refl in inl (d.0, a.0, a.1))
    (λ open_. inr (length text, cause.Unclosed, reads_open text [] s short valid r open_ refl))
    (done_or s)

-- whatever the places of keys are
abbrev After : List ℕ → ℕ → Type 0
After text n = (s : State) (rest begun : List ℕ) → length rest ≤ n → Loop text s rest begun → Answer text

gone : (text : List ℕ) (n : ℕ) (s : State) (rest begun : List ℕ) → length text ≤ longest → IsUtf8 text → length rest ≤ suc n → Noted text s rest begun → After text n → Next s rest → Answer text
gone text n s rest begun short valid bound places more m =
    ⊎_elim
    (λ new.
    let b = some_rest m.after in
    let shorter = begins_shorter m.moves.stands.begins in
    let past = blanks_shorter b.blanks in
    more m.state_ b.end begun (omega arith) (loop_next text s m.state_ rest m.after b.end begun places m.moves new b.blanks b.solid))
    (λ old. let r = loop_again text s m.state_ rest m.after begun short valid places m.moves old in inr (r.0, cause.DuplicateKey, r.2))
    (entry_or m.state_)

all : (text : List ℕ) → length text ≤ longest → IsUtf8 text → (n : ℕ) → After text n
all text short valid n s [] begun bound l = ended text s short valid (loop_reads text s [] begun l)
all text short valid zero s (byte ∷ more) begun bound l = absurd (omega (arith, bound))
all text short valid (suc n) s (byte ∷ more) begun bound l =
    let rest = byte ∷ more in
    let places = loop_noted text s rest begun l in
    let g : Given text s rest = record { short = short; valid = valid; reads = loop_reads text s rest begun l; some = λ e. cc } in
    ⊎_elim (gone text n s rest (noted s (length rest) begun) short valid bound places (all text short valid n)) (λ refused. inr refused) (goes g)

zeros : ℕ → List ℕ
zeros zero = []
zeros (suc n) = 0 ∷ zeros n

zeros_length : (n : ℕ) → length (zeros n) ≡ n
unfolding zeros
zeros_length zero = refl
zeros_length (suc n) = ap suc (zeros_length n)

some_tokens : (text : List ℕ) → length text ≤ longest → IsUtf8 text → Answer text
some_tokens text short valid =
    let b = some_rest text in
    all text short valid (length b.end) start b.end (zeros 65) (omega arith) (loop_first text b.end (zeros 65) (zeros_length 65) b.blanks b.solid)

-- bytes that are no text

record Front (text : List ℕ) (n : ℕ) : Type 0 where
  at : ℕ
  few : at ≤ n
  valid : IsUtf8 (take at text)
  most : (m : ℕ) → at < m → IsUtf8 (take m text) → ⊥

front : (text : List ℕ) (n : ℕ) → ((m : ℕ) → n < m → IsUtf8 (take m text) → ⊥) → Front text n
front text zero most = record { at = 0; few = omega arith; valid = IsUtf8-nil; most = most }
front text (suc n) most = by (is_utf8 (take (suc n) text)) refl (front text n)
  where
    below : is_utf8 (take (suc n) text) ≡ false → (m : ℕ) → n < m → IsUtf8 (take m text) → ⊥
    below e m l u = ⊎_elim (λ more. most m more u) (λ same. let is : m ≡ suc n = omega arith in true≢false (sym (is_utf8-from_IsUtf8 (take (suc n) text) (subst (λ k. IsUtf8 (take k text)) is u)) ∙ e)) (cases_lt (suc n) m)

    by : (whole : Bool) → is_utf8 (take (suc n) text) ≡ whole → (((m : ℕ) → n < m → IsUtf8 (take m text) → ⊥) → Front text n) → Front text (suc n)
    by true e ih = record { at = suc n; few = omega arith; valid = IsUtf8-from_is_utf8 (take (suc n) text) e; most = most }
    by false e ih = let f = ih (below e) in let few = f.few in record { at = f.at; few = omega arith; valid = f.valid; most = f.most }

broken : (text : List ℕ) → (IsUtf8 text → ⊥) → (at : ℕ) × IsValidUpTo text at
broken text wrong =
    let f = front text (length text) (λ m l u. wrong (subst IsUtf8 (take_all m text (omega arith)) u)) in
    let few = f.few in
    (f.at, record { short = ⊎_elim (λ l. l) (λ l. absurd (wrong (subst IsUtf8 (take_all f.at text l) f.valid))) (cases_lt f.at (length text)); front = f.valid; longest = f.most })

by_utf8 : (text : List ℕ) → length text ≤ longest → (valid : Bool) → is_utf8 text ≡ valid → Answer text
by_utf8 text short true e = some_tokens text short (IsUtf8-from_is_utf8 text e)
by_utf8 text short false e =
    let b = broken text (λ u. true≢false (sym (is_utf8-from_IsUtf8 text u) ∙ e)) in
    inr (b.0, cause.BadUtf8, utf8 short b.1)

some_reading : (text : List ℕ) → Answer text
some_reading text = ⊎_elim (λ l. inr (longest, cause.TooLong, long l)) (λ l. by_utf8 text l (is_utf8 text) refl) (cases_lt longest (length text))

-- a term within the limits, or a refusal as it is told
pub some_told : (text : List ℕ) → ((t : Term) × Spells text t × Within text t) ⊎ ((error : TermError) × IsFalse (is_memory error.cause) × IsRefusal text error.at error.cause)
some_told text = ⊎_elim (λ spelled. inl spelled) (λ r. inr (record { at = r.0; cause = r.1 }, not_memory r.2, r.2)) (some_reading text)
