-- Atoms with a colon, and their first faults.
use Rattle.std.specs.Prelude.{option_map, Ok, Err}
use Rattle.std.proofs.Common.{◌≡◌, ℕ, suc, ◌+◌, ◌<◌, ◌≤◌, Bool, true, false, ◌⊎◌, inl, inr, List, [], ◌∷◌, ◌++◌, Option, Some, None, length, take, drop, cond, eqb, refl, sym, ap, ◌∙◌, arith, subst, append_assoc, eq-eqb, ⊎_elim}
use Rattle.std.proofs.lemmas.Bool.{eqb-true, true≢false}
use Rattle.std.proofs.lemmas.List.{append-nil, length-append}
use Rattle.std.specs.Str.{IsUtf8}
use Rattle.term_tokens.specs.declared.cause.Feature.TheVariants.{Interpolation}
use Rattle.term_tokens.specs.declared.cause.TermCause.{TermCause}
use Rattle.term_tokens.specs.declared.cause.TermCause.TheVariants.{Unsupported, BadEscape, BadUtf8, Unclosed, Unexpected}
use Rattle.term_tokens.specs.declared.expected.Expected.{Expected}
use Rattle.term_tokens.specs.declared.token.Token.{Token}
use Rattle.term_tokens.specs.declared.token.Token.TheVariants.{Atom}
use Rattle.term_tokens.specs.Lexed.{broken, spelt_at, stuck_at, stopped, quoted_only, quoted_stop, name_atom_lexed, after_colon_lexed, atom_lexed}
use Rattle.term_tokens.specs.Lexing.{Found, next_at, utf8_only, quoted_at, quoted_atom_of, name_len, name_rest_len, name_atom_of, atom_at, escape_at}
use Rattle.term_tokens.specs.Local.{rank, takes, IsPart, IsShut, IsOpening, Locally, interpolation, escape, atom_utf8}
use Rattle.term_tokens.specs.Names.{is_name_start}
use Rattle.term_tokens.specs.Strings.{Quoted, opens_interpolation}
use Rattle.term_tokens.specs.Tokens.{quoted_atom}
use Rattle.term_tokens.proofs.FaultLemmas.{Right, first_by, unexpected_at, unclosed_at, at_once, shut_none, shut_taken, broken_by_slash, broken_by_opening, opens_found, broken_one, broken_some, broken_no_quote}
use Rattle.term_tokens.proofs.FaultForms.{IsNone, IsBroken, ColonMark, colon_broken, colon_utf8}
use Rattle.term_tokens.proofs.OptionLemmas.{none_some, some_same, map_some}
use Rattle.term_tokens.proofs.StringLemmas.{spelt_sound, broken_stop, no_escape, quoted_is_spelt, quoted_from_spelt}
use Rattle.term_tokens.proofs.StringParts.{utf8_found, utf8_kept}
use Rattle.term_tokens.proofs.StuckItems.{Opens, Never, Stuck}
use Rattle.term_tokens.proofs.StuckLemmas.{Walked, walked, free_front}
use Rattle.term_tokens.proofs.BeginLemmas.{begins_first, name_atom_more}
use Rattle.term_tokens.proofs.TokenLemmas.{first_begins}

-- the token is an atom

name_token : (len : ℕ) (text : List ℕ) (found : Token × List ℕ) → name_atom_of len text ≡ Some found → (name : List ℕ) × (found.0 ≡ Atom name)
name_token len text found h = by (eqb len 0) h
  where
    by : (none : Bool) → cond none None (Some (Atom (take len text), drop len text)) ≡ Some found → (name : List ℕ) × (found.0 ≡ Atom name)
    by true h = absurd (none_some h)
    by false h = (take len text, ap (λ f. f.0) (sym (some_same h)))

quoted_token : (o : Found (List ℕ)) (found : Token × List ℕ) → quoted_atom_of o ≡ Some found → (name : List ℕ) × (found.0 ≡ Atom name)
quoted_token None found h = absurd (none_some h)
quoted_token (Some f) found h = let m = map_some (λ name. (Atom name, f.1)) (utf8_only f.0) found h in (m.0, ap (λ x. x.0) (sym m.2))

atom_token : (text : List ℕ) (found : Token × List ℕ) → atom_at text ≡ Some found → (name : List ℕ) × (found.0 ≡ Atom name)
atom_token [] found h = absurd (none_some h)
atom_token (byte ∷ text) found h = by (eqb byte 34) h
  where
    by : (quote : Bool) → cond quote (quoted_atom_of (quoted_at text)) (name_atom_of (name_len (byte ∷ text)) (byte ∷ text)) ≡ Some found → (name : List ℕ) × (found.0 ≡ Atom name)
    by true h = quoted_token (quoted_at text) found h
    by false h = name_token (name_len (byte ∷ text)) (byte ∷ text) found h

colon_part : (e : Expected) → e.term ≡ true → IsPart e (58 ∷ [])
colon_part e t = inr (Atom (97 ∷ []), 97 ∷ [], first_begins (58 ∷ 97 ∷ []) (Atom (97 ∷ []), []) refl, t)

late : (e : Expected) (after : List ℕ) {place : ℕ} {why : TermCause} → ColonMark e after place why → 0 < place
late e after (colon_broken inside bytes rest s f b p) =
    let r = spelt_sound inside in
    let same : ◌≡◌ {A = List ℕ} (spelt_at inside).1 rest = ap (λ x. x.1) f in
    omega (arith, p, ap length s, ap length r.split, length-append r.inside (spelt_at inside).1, ap length same)
late e after (colon_utf8 inside bytes more t s f u) = omega arith

-- quoted atoms

open_part : (e : Expected) (text inside : List ℕ) → e.term ≡ true → Opens [] text inside → IsPart e (58 ∷ 34 ∷ inside)
open_part e text inside t o = inr (Atom o.spelled, o.more ++ 34 ∷ [], quoted_atom o.quoted o.utf8 (ap (λ l. 58 ∷ 34 ∷ l) (sym (append_assoc inside o.more (34 ∷ [])))), t)

never_shut : (e : Expected) (part : List ℕ) → Never [] part → IsShut e (58 ∷ 34 ∷ part)
never_shut e part n more tok after b t f = by (quoted_at (part ++ more)) refl (begins_first b)
  where
    by : (o : Found (List ℕ)) → quoted_at (part ++ more) ≡ o → quoted_atom_of o ≡ Some (tok, after) → ⊥
    by None q h = none_some h
    by (Some found) q h =
        let m = map_some (λ name. (Atom name, found.1)) (utf8_only found.0) (tok, after) h in
        n more found q (utf8_found found.0 m.0 m.1).0

-- the mark where the quoted inside ends there
quoted_mark : (e : Expected) (inside bytes rest : List ℕ) {place : ℕ} {why : TermCause} → spelt_at inside ≡ (bytes, rest) → ColonMark e (34 ∷ inside) place why → (IsBroken rest why × (place + length rest ≡ suc (suc (length inside)))) ⊎ ((place ≡ 1) × (why ≡ BadUtf8) × (IsUtf8 bytes → ⊥) × ((more : List ℕ) × (rest ≡ 34 ∷ more)))
quoted_mark e inside bytes rest {place = place} {why = why} f (colon_broken other bytes2 rest2 s g b p) =
    let same : other ≡ inside = cc in
    let pair : ◌≡◌ {A = List ℕ × List ℕ} (bytes2, rest2) (bytes, rest) = sym g ∙ ap spelt_at same ∙ f in
    let stop : rest2 ≡ rest = ap (λ x. x.1) pair in
    inl (subst (λ l. IsBroken l why) stop b, omega (arith, p, ap length stop))
quoted_mark e inside bytes rest f (colon_utf8 other bytes2 more t s g u) =
    let same : other ≡ inside = cc in
    let pair : ◌≡◌ {A = List ℕ × List ℕ} (bytes2, 34 ∷ more) (bytes, rest) = sym g ∙ ap spelt_at same ∙ f in
    inr (refl, refl, subst (λ l. IsUtf8 l → ⊥) (ap (λ x. x.0) pair) u, (more, sym (ap (λ x. x.1) pair)))

-- nothing closes the quotes
open_none : (e : Expected) (inside bytes rest : List ℕ) → spelt_at inside ≡ (bytes, rest) → ((more : List ℕ) → rest ≡ 34 ∷ more → ⊥) → IsNone e (58 ∷ 34 ∷ inside)
open_none e inside bytes rest f closes tok after b t g = by (quoted_at inside) refl (begins_first b)
  where
    by : (o : Found (List ℕ)) → quoted_at inside ≡ o → quoted_atom_of o ≡ Some (tok, after) → ⊥
    by None q h = none_some h
    by (Some found) q h = let s : ◌≡◌ {A = List ℕ × List ℕ} (bytes, rest) (found.0, 34 ∷ found.1) = sym f ∙ quoted_is_spelt inside found q in closes found.1 (ap (λ x. x.1) s)

pub low : (b : ℕ) → rank (broken b) ≤ 14
low b = at (eqb b 92)
  where
    at : (slash : Bool) → rank (cond slash BadEscape (Unsupported Interpolation)) ≤ 14
    at true = omega arith
    at false = omega arith

-- where a string stops before its end
pub stop_broken : (byte : ℕ) (after : List ℕ) → next_at (byte ∷ after) ≡ None → eqb byte 34 ≡ false → IsBroken (byte ∷ after) (broken byte)
stop_broken byte after n q = ⊎_elim (λ x. broken_by_slash byte after (eq-eqb byte 92 x.0)) (λ x. broken_by_opening byte after x.0 x.1) (broken_stop byte after n q)

pub holds_broken : (e : Expected) (text opening inside bytes : List ℕ) (byte : ℕ) (after : List ℕ) → e.term ≡ true ⊎ e.key ≡ true → IsOpening opening → Quoted inside bytes → next_at (byte ∷ after) ≡ None → eqb byte 34 ≡ false → text ≡ opening ++ (inside ++ byte ∷ after) → Locally e text (length opening + length inside) (broken byte)
holds_broken e text opening inside bytes byte after t o q n c s = ⊎_elim slash opens (broken_stop byte after n c)
  where
    slash : (byte ≡ 92) × (escape_at after ≡ None) → Locally e text (length opening + length inside) (broken byte)
    slash x = subst (λ b. Locally e text (length opening + length inside) (broken b)) (sym x.0) (escape after t o q (s ∙ ap (λ b. opening ++ (inside ++ b ∷ after)) x.0) (no_escape after x.1))

    opens : (eqb byte 92 ≡ false) × (opens_interpolation byte after ≡ true) → Locally e text (length opening + length inside) (broken byte)
    opens x = let f = opens_found byte after x.1 in subst (λ c. Locally e text (length opening + length inside) c) (sym (ap (λ b. cond b BadEscape (Unsupported Interpolation)) x.0)) (interpolation f.0 t o q (s ∙ ap (λ l. opening ++ (inside ++ l)) f.1))

-- what stands between the quotes can become UTF-8 no more before they stop
stuck_right : (e : Expected) (inside bytes rest place : List ℕ) → e.term ≡ true → spelt_at inside ≡ (bytes, rest) → ((more : List ℕ) → rest ≡ 34 ∷ more → ⊥) → Stuck [] inside place → Right e (58 ∷ 34 ∷ inside) (Err (place, Unexpected))
stuck_right e inside bytes rest place t f ends w =
    subst (λ l. Right e (58 ∷ 34 ∷ inside) (Err (l, Unexpected))) (sym w.here)
    (unexpected_at e (58 ∷ 34 ∷ inside) (58 ∷ 34 ∷ w.front) w.after w.byte (ap (λ l. 58 ∷ 34 ∷ l) w.split) (open_part e inside w.front t w.opens) (never_shut e (w.front ++ w.byte ∷ []) w.shut)
    (λ k other m. ⊎_elim (λ x. omega (arith, x.1, w.early, ap length w.here, ap length w.split, length-append w.front (w.byte ∷ w.after), ap (λ s. length s.1) f)) (λ x. absurd (ends x.3.0 x.3.1)) (quoted_mark e inside bytes rest f m)))

stopped_right : (e : Expected) (inside bytes rest : List ℕ) (why : TermCause) → e.term ≡ true → spelt_at inside ≡ (bytes, rest) → ((more : List ℕ) → rest ≡ 34 ∷ more → ⊥) → ((front : List ℕ) → inside ≡ front ++ (spelt_at inside).1 → IsPart e (58 ∷ 34 ∷ front) → Right e (58 ∷ 34 ∷ inside) (Err (rest, why))) → (front : List ℕ) → inside ≡ front ++ (spelt_at inside).1 → (o : Option (List ℕ)) → Walked [] inside o → Right e (58 ∷ 34 ∷ inside) (stopped false o (Err (rest, why)))
stopped_right e inside bytes rest why t f ends good front s None w = good front s (open_part e inside front t (free_front inside front w s))
stopped_right e inside bytes rest why t f ends good front s (Some place) w = stuck_right e inside bytes rest place t f ends w

stop_right : (e : Expected) (inside bytes rest : List ℕ) → e.term ≡ true → spelt_at inside ≡ (bytes, rest) → Right e (58 ∷ 34 ∷ inside) (quoted_stop (34 ∷ inside) bytes rest (stuck_at inside))
stop_right e inside bytes [] t f = stopped_right e inside bytes [] Unclosed t f (λ more h. cc) ended (spelt_sound inside).inside (spelt_sound inside).split (stuck_at inside) (walked inside)
  where
    ended : (front : List ℕ) → inside ≡ front ++ (spelt_at inside).1 → IsPart e (58 ∷ 34 ∷ front) → Right e (58 ∷ 34 ∷ inside) (Err ([], Unclosed))
    ended front s part =
        let whole : front ≡ inside = sym (append-nil front) ∙ ap (λ x. front ++ x) (sym (ap (λ x. x.1) f)) ∙ sym s in
        unclosed_at e (58 ∷ 34 ∷ inside) (subst (λ l. IsPart e (58 ∷ 34 ∷ l)) whole part)
        (open_none e inside bytes [] f (λ more h. cc))
        (λ place other m. absurd (⊎_elim (λ x. broken_some [] other x.0 refl) (λ x. let h : ◌≡◌ {A = List ℕ} [] (34 ∷ x.3.0) = x.3.1 in cc) (quoted_mark e inside bytes [] f m)))
stop_right e inside bytes (byte ∷ after) t f = by (eqb byte 34) refl
  where
    bad : eqb byte 34 ≡ true → utf8_only bytes ≡ None → Right e (58 ∷ 34 ∷ inside) (Err (34 ∷ inside, BadUtf8))
    bad q u =
        let r = spelt_sound inside in
        let rest : (spelt_at inside).1 ≡ 34 ∷ after = ap (λ x. x.1) f ∙ ap (λ b. b ∷ after) (eqb-true byte 34 q) in
        let same : (spelt_at inside).0 ≡ bytes = ap (λ x. x.0) f in
        first_by e (58 ∷ 34 ∷ inside) (58 ∷ []) (34 ∷ inside) BadUtf8 refl (colon_part e t) (omega arith) (λ h. cc)
        (atom_utf8 after t (subst (λ l. Quoted r.inside l) same r.quoted) (λ v. none_some (sym u ∙ utf8_kept bytes v)) (ap (λ l. 58 ∷ 34 ∷ l) (r.split ∙ ap (λ l. r.inside ++ l) rest)))
        (λ place other m. ⊎_elim (λ x. absurd (broken_no_quote (byte ∷ after) other after x.0 (ap (λ b. b ∷ after) (eqb-true byte 34 q)))) (λ x. inr (sym x.0, omega (arith, ap rank x.1))) (quoted_mark e inside bytes (byte ∷ after) f m))

    good : eqb byte 34 ≡ true → (name : List ℕ) → utf8_only bytes ≡ Some name → Right e (58 ∷ 34 ∷ inside) (Ok (Atom name, after))
    good q name u =
        let g = quoted_from_spelt inside bytes after (f ∙ ap (λ b. (bytes, b ∷ after)) (eqb-true byte 34 q)) in
        (first_begins (58 ∷ 34 ∷ inside) (Atom name, after) (ap quoted_atom_of g ∙ ap (option_map (λ name. (Atom name, after))) u), t, tt, refl, λ place why m. ⊎_elim (λ x. broken_no_quote (byte ∷ after) why after x.0 (ap (λ b. b ∷ after) (eqb-true byte 34 q))) (λ x. x.2 (utf8_found bytes name u).0) (quoted_mark e inside bytes (byte ∷ after) f m))

    only : eqb byte 34 ≡ true → (o : Option (List ℕ)) → utf8_only bytes ≡ o → Right e (58 ∷ 34 ∷ inside) (quoted_only (34 ∷ inside) after o)
    only q None u = bad q u
    only q (Some name) u = good q name u

    opened : eqb byte 34 ≡ false → (more : List ℕ) → byte ∷ after ≡ 34 ∷ more → ⊥
    opened q more h = let b : byte ≡ 34 = cc in true≢false (sym (eq-eqb byte 34 b) ∙ q)

    broke : eqb byte 34 ≡ false → (front : List ℕ) → inside ≡ front ++ (spelt_at inside).1 → IsPart e (58 ∷ 34 ∷ front) → Right e (58 ∷ 34 ∷ inside) (Err (byte ∷ after, broken byte))
    broke q front whole part =
        let r = spelt_sound inside in
        let rest : (spelt_at inside).1 ≡ byte ∷ after = ap (λ x. x.1) f in
        let split : inside ≡ front ++ byte ∷ after = whole ∙ ap (λ l. front ++ l) rest in
        let long : length front ≡ length r.inside = omega (arith, ap length whole, ap length r.split, length-append front (spelt_at inside).1, length-append r.inside (spelt_at inside).1) in
        let n : next_at (byte ∷ after) ≡ None = ap next_at (sym rest) ∙ r.stops in
        let place : length (58 ∷ 34 ∷ front) ≡ 2 + length r.inside = omega (arith, long) in
        first_by e (58 ∷ 34 ∷ inside) (58 ∷ 34 ∷ front) (byte ∷ after) (broken byte) (ap (λ l. 58 ∷ 34 ∷ l) split) part (low byte) (λ h. cc)
        (subst (λ k. Locally e (58 ∷ 34 ∷ inside) k (broken byte)) (sym place) (holds_broken e (58 ∷ 34 ∷ inside) (58 ∷ 34 ∷ []) r.inside (spelt_at inside).0 byte after (inl t) (inr refl) r.quoted n q (ap (λ l. 58 ∷ 34 ∷ l) (r.split ∙ ap (λ l. r.inside ++ l) rest))))
        (λ place other m. ⊎_elim (λ x. inr (omega (arith, x.1, ap length split, length-append front (byte ∷ after)), omega (arith, ap rank (broken_one (byte ∷ after) other byte after x.0 refl)))) (λ x. absurd (opened q x.3.0 x.3.1)) (quoted_mark e inside bytes (byte ∷ after) f m))

    by : (quote : Bool) → eqb byte 34 ≡ quote → Right e (58 ∷ 34 ∷ inside) (cond quote (quoted_only (34 ∷ inside) after (utf8_only bytes)) (stopped false (stuck_at inside) (Err (byte ∷ after, broken byte))))
    by true q = only q (utf8_only bytes) refl
    by false q = stopped_right e inside bytes (byte ∷ after) (broken byte) t f (opened q) (broke q) (spelt_sound inside).inside (spelt_sound inside).split (stuck_at inside) (walked inside)

-- after the colon

no_quote : (e : Expected) (byte : ℕ) (after : List ℕ) {place : ℕ} {why : TermCause} → eqb byte 34 ≡ false → ColonMark e (byte ∷ after) place why → ⊥
no_quote e byte after q (colon_broken inside bytes rest s f b p) = let h : byte ≡ 34 = cc in true≢false (sym (eq-eqb byte 34 h) ∙ q)
no_quote e byte after q (colon_utf8 inside bytes more t s f u) = let h : byte ≡ 34 = cc in true≢false (sym (eq-eqb byte 34 h) ∙ q)

empty_mark : (e : Expected) {place : ℕ} {why : TermCause} → ColonMark e [] place why → ⊥
empty_mark e (colon_broken inside bytes rest s f b p) = cc
empty_mark e (colon_utf8 inside bytes more t s f u) = cc

not_name : (byte : ℕ) (text : List ℕ) → eqb byte 34 ≡ false → is_name_start byte ≡ false → atom_at (byte ∷ text) ≡ None
not_name byte text q s =
    ap (λ x. cond x (quoted_atom_of (quoted_at text)) (name_atom_of (name_len (byte ∷ text)) (byte ∷ text))) q
    ∙ ap (λ x. name_atom_of (cond x (suc (name_rest_len text)) 0) (byte ∷ text)) s

named_atom : (byte : ℕ) (text : List ℕ) → eqb byte 34 ≡ false → is_name_start byte ≡ true → atom_at (byte ∷ text) ≡ Some (Atom (take (name_len (byte ∷ text)) (byte ∷ text)), drop (name_len (byte ∷ text)) (byte ∷ text))
named_atom byte text q s =
    let n : name_len (byte ∷ text) ≡ suc (name_rest_len text) = ap (λ x. cond x (suc (name_rest_len text)) 0) s in
    ap (λ x. cond x (quoted_atom_of (quoted_at text)) (name_atom_of (name_len (byte ∷ text)) (byte ∷ text))) q
    ∙ ap (λ k. name_atom_of k (byte ∷ text)) n ∙ name_atom_more (name_rest_len text) (byte ∷ text) ∙ ap (λ k. Some (Atom (take k (byte ∷ text)), drop k (byte ∷ text))) (sym n)

after_right : (e : Expected) (text : List ℕ) → e.term ≡ true → Right e (58 ∷ text) (after_colon_lexed text)
after_right e [] t = unclosed_at e (58 ∷ []) (colon_part e t) (λ tok after b u f. none_some (begins_first b)) (λ place other m. absurd (empty_mark e m))
after_right e (byte ∷ text) t = by (eqb byte 34) (is_name_start byte) refl refl
  where
    by : (quote start : Bool) → eqb byte 34 ≡ quote → is_name_start byte ≡ start → Right e (58 ∷ byte ∷ text) (cond quote (quoted_stop (byte ∷ text) (spelt_at text).0 (spelt_at text).1 (stuck_at text)) (cond start (name_atom_lexed (byte ∷ text)) (Err (byte ∷ text, Unexpected))))
    by true start q s = subst (λ b. Right e (58 ∷ b ∷ text) (quoted_stop (b ∷ text) (spelt_at text).0 (spelt_at text).1 (stuck_at text))) (sym (eqb-true byte 34 q)) (stop_right e text (spelt_at text).0 (spelt_at text).1 t refl)
    by false true q s = (first_begins (58 ∷ byte ∷ text) (Atom (take (name_len (byte ∷ text)) (byte ∷ text)), drop (name_len (byte ∷ text)) (byte ∷ text)) (named_atom byte text q s), t, tt, refl, λ place why m. no_quote e byte text q m)
    by false false q s = unexpected_at e (58 ∷ byte ∷ text) (58 ∷ []) text byte refl (colon_part e t) (shut_none e (58 ∷ byte ∷ []) (λ more. not_name byte more q s)) (λ place other m. absurd (no_quote e byte text q m))

-- an atom is read or refused as it is to be
pub atom_right : (e : Expected) (text : List ℕ) → Right e (58 ∷ text) (atom_lexed e (58 ∷ text) text)
atom_right e text = by e.term refl
  where
    by : (term : Bool) → e.term ≡ term → Right e (58 ∷ text) (cond term (after_colon_lexed text) (Err (58 ∷ text, Unexpected)))
    by true t = after_right e text t
    by false t = at_once e 58 text (shut_taken e (58 ∷ []) (λ more found h. ap (takes e) (atom_token more found h).1 ∙ t)) (λ place other m. late e text m)
