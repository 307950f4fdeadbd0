-- Blanks at the ends of a text, comments, and lines that begin with `warn`.
use Rattle.std.proofs.Common.{◌≡◌, ℕ, suc, ◌&&◌, ◌==◌, not, Bool, true, false, List, [], ◌∷◌, ◌++◌, Some, None, cond, eqb, take, codes, refl, sym, ap, ◌∙◌, subst, append_assoc, ⊎_elim}
use Rattle.std.specs.Prelude.{◌⊎◌}
use Rattle.std.proofs.lemmas.Bool.{and_parts, and_from, eqb-true, ne_eqb, true≢false, false≢true, not-true, not_from_false}
use Rattle.unit_lang.specs.Gives.{IsWarning}
use Rattle.unit_lang.specs.Lexing.{after_warn, plain_len}
use Rattle.unit_lang.specs.Lines.{are_blanks, ends_solid, is_solid, StartsWarn, IsWarnLine, IsBlankLine, Warns}
use Rattle.unit_lang.specs.Names.{is_blank}
use Rattle.unit_lang.specs.Tokens.{without_blanks, without_comment, end}
use Rattle.unit_lang.proofs.TokenLemmas.{leads_none}

comment_at : (byte : ℕ) (line : List ℕ) (t : Bool) → without_comment line ≡ take (plain_len line) line → cond t [] (byte ∷ without_comment line) ≡ take (cond t 0 (suc (plain_len line))) (byte ∷ line)
comment_at byte line true h = refl
comment_at byte line false h = ap (λ l. byte ∷ l) h

-- the line without its comment is its first bytes
pub comment_len : (line : List ℕ) → without_comment line ≡ take (plain_len line) line
comment_len [] = refl
comment_len (byte ∷ line) = comment_at byte line (byte == 35) (comment_len line)

blanks_gone : (before text : List ℕ) → are_blanks before ≡ true → without_blanks (before ++ text) ≡ without_blanks text
blanks_gone [] text h = refl
blanks_gone (byte ∷ before) text h =
    let parts = and_parts (is_blank byte) (are_blanks before) h in
    ap (λ b. cond b (without_blanks (before ++ text)) (byte ∷ before ++ text)) parts.0 ∙ blanks_gone before text parts.1

-- the blanks at a text's beginning
record Before (text : List ℕ) : Type 0 where
  before : List ℕ
  blank : are_blanks before ≡ true
  split : text ≡ before ++ without_blanks text

before_at : (byte : ℕ) (text : List ℕ) (t : Bool) → is_blank byte ≡ t → Before text → (before : List ℕ) × (are_blanks before ≡ true) × (byte ∷ text ≡ before ++ cond t (without_blanks text) (byte ∷ text))
before_at byte text true t h = (byte ∷ h.before, and_from (is_blank byte) (are_blanks h.before) t h.blank, ap (λ l. byte ∷ l) h.split)
before_at byte text false t h = ([], refl, refl)

before_of : (text : List ℕ) → Before text
before_of [] = record { before = []; blank = refl; split = refl }
before_of (byte ∷ text) = let k = before_at byte text (is_blank byte) refl (before_of text) in record { before = k.0; blank = k.1; split = k.2 }

-- what `warn` and a blank begin
record WarnAt (text rest : List ℕ) : Type 0 where
  blank : ℕ
  is : is_blank blank ≡ true
  split : text ≡ codes "warn" ++ blank ∷ rest

warn_test : (w a r n blank : ℕ) (more rest : List ℕ) (t : Bool) → (w == 119 && a == 97 && r == 114 && n == 110 && is_blank blank) ≡ t → cond t (Some more) None ≡ Some rest → WarnAt (w ∷ a ∷ r ∷ n ∷ blank ∷ more) rest
warn_test w a r n blank more rest false t e = absurd (cc)
warn_test w a r n blank more rest true t e =
    let p4 = and_parts (w == 119 && a == 97 && r == 114 && n == 110) (is_blank blank) t in
    let p3 = and_parts (w == 119 && a == 97 && r == 114) (n == 110) p4.0 in
    let p2 = and_parts (w == 119 && a == 97) (r == 114) p3.0 in
    let p1 = and_parts (w == 119) (a == 97) p2.0 in
    let ew = eqb-true w 119 p1.0 in
    let ea = eqb-true a 97 p1.1 in
    let er = eqb-true r 114 p2.1 in
    let en = eqb-true n 110 p3.1 in
    let same : more ≡ rest = cc in
    record { blank = blank; is = p4.1; split = rw (ew, ea, er, en, same) refl }

warn_at : (text rest : List ℕ) → after_warn text ≡ Some rest → WarnAt text rest
warn_at [] rest e = absurd (cc)
warn_at (w ∷ []) rest e = absurd (cc)
warn_at (w ∷ a ∷ []) rest e = absurd (cc)
warn_at (w ∷ a ∷ r ∷ []) rest e = absurd (cc)
warn_at (w ∷ a ∷ r ∷ n ∷ []) rest e = absurd (cc)
warn_at (w ∷ a ∷ r ∷ n ∷ blank ∷ more) rest e = warn_test w a r n blank more rest (w == 119 && a == 97 && r == 114 && n == 110 && is_blank blank) refl e

-- the function finds where `warn` begins a line
pub starts_warn : (line rest : List ℕ) → after_warn (without_blanks line) ≡ Some rest → StartsWarn line rest
starts_warn line rest e =
    let k = before_of line in
    let w = warn_at (without_blanks line) rest e in
    record { before = k.before; blank = w.blank; before_blank = k.blank; after_blank = w.is; split = k.split ∙ ap (λ l. k.before ++ l) w.split ∙ sym (append_assoc k.before (codes "warn") (w.blank ∷ rest)) }

warn_takes : (blank : ℕ) (rest : List ℕ) → is_blank blank ≡ true → after_warn (codes "warn" ++ blank ∷ rest) ≡ Some rest
warn_takes blank rest b = ap (λ t. cond t (Some rest) None) b

pub warn_found : (line rest : List ℕ) → StartsWarn line rest → after_warn (without_blanks line) ≡ Some rest
warn_found line rest s =
    ap (λ l. after_warn (without_blanks l)) (s.split ∙ append_assoc s.before (codes "warn") (s.blank ∷ rest))
    ∙ ap after_warn (blanks_gone s.before (codes "warn" ++ s.blank ∷ rest) s.before_blank)
    ∙ warn_takes s.blank rest s.after_blank

pub no_warn : (line : List ℕ) → after_warn (without_blanks line) ≡ None → IsWarnLine line → ⊥
no_warn line e w = let f = warn_found line w.0 w.1 in cc

-- a line that is blank but for a comment

blank_no_sharp : (byte : ℕ) → is_blank byte ≡ true → eqb byte 35 ≡ false
blank_no_sharp byte w = ne_eqb byte 35 (λ e. false≢true (subst (λ b. is_blank b ≡ true) e w))

solid_stays : (before more : List ℕ) → are_blanks before ≡ true → without_blanks (without_comment (before ++ 119 ∷ more)) ≡ 119 ∷ without_comment more
solid_stays [] more h = refl
solid_stays (byte ∷ before) more h =
    let parts = and_parts (is_blank byte) (are_blanks before) h in
    ap (λ t. without_blanks (cond t [] (byte ∷ without_comment (before ++ 119 ∷ more)))) (blank_no_sharp byte parts.0)
    ∙ ap (λ t. cond t (without_blanks (without_comment (before ++ 119 ∷ more))) (byte ∷ without_comment (before ++ 119 ∷ more))) parts.0
    ∙ solid_stays before more parts.1

-- a `warn` line begins with that word
pub warn_solid : (line rest : List ℕ) → StartsWarn line rest → (more : List ℕ) × (without_blanks (without_comment line) ≡ 119 ∷ more)
warn_solid line rest s =
    let more = 97 ∷ 114 ∷ 110 ∷ s.blank ∷ rest in
    let split : line ≡ s.before ++ 119 ∷ more = s.split ∙ append_assoc s.before (codes "warn") (s.blank ∷ rest) in
    (without_comment more, ap (λ l. without_blanks (without_comment l)) split ∙ solid_stays s.before more s.before_blank)

blank_no_warn : (line rest : List ℕ) → without_blanks (without_comment line) ≡ [] → StartsWarn line rest → ⊥
blank_no_warn line rest e s =
    let solid = warn_solid line rest s in
    let both : [] ≡ 119 ∷ solid.0 = sym e ∙ solid.1 in
    cc

pub is_blank_line : (line : List ℕ) → without_blanks (without_comment line) ≡ [] → IsBlankLine line
is_blank_line line e = record { plain = λ w. blank_no_warn line w.0 e w.1; cut = end e }

pub blank_line_is : (line : List ℕ) → IsBlankLine line → without_blanks (without_comment line) ≡ []
blank_line_is line b = leads_none (without_comment line) [] b.cut

-- a text after `warn`

solid_first : (text after : List ℕ) → is_solid text ≡ true → without_blanks (text ++ after) ≡ text ++ after
solid_first [] after h = absurd (false≢true h)
solid_first (byte ∷ text) after h =
    let parts = and_parts (not (is_blank byte)) (ends_solid (byte ∷ text)) h in
    ap (λ b. cond b (without_blanks (text ++ after)) (byte ∷ text ++ after)) (not-true (is_blank byte) parts.0)

solid_ends : (text : List ℕ) → is_solid text ≡ true → ends_solid text ≡ true
solid_ends [] h = absurd (false≢true h)
solid_ends (byte ∷ text) h = (and_parts (not (is_blank byte)) (ends_solid (byte ∷ text)) h).1

-- without the blanks before it, the rest is the text and blanks
warning_at : (rest text : List ℕ) (w : IsWarning rest text) → without_blanks rest ≡ text ++ w.after
warning_at rest text w =
    ap without_blanks (w.split ∙ append_assoc w.before text w.after)
    ∙ blanks_gone w.before (text ++ w.after) w.before_blank
    ∙ solid_first text w.after w.solid

no_solid_blanks : (text after : List ℕ) → ends_solid text ≡ true → are_blanks (text ++ after) ≡ true → ⊥
no_solid_blanks [] after s b = false≢true s
no_solid_blanks (byte ∷ []) after s b = true≢false (sym (and_parts (is_blank byte) (are_blanks after) b).0 ∙ not-true (is_blank byte) s)
no_solid_blanks (byte ∷ next ∷ text) after s b = no_solid_blanks (next ∷ text) after s (and_parts (is_blank byte) (are_blanks (next ∷ text ++ after)) b).1

solid_one : (t u a b : List ℕ) → ends_solid t ≡ true → ends_solid u ≡ true → are_blanks a ≡ true → are_blanks b ≡ true → t ++ a ≡ u ++ b → t ≡ u
solid_one [] u a b s r p q e = absurd (false≢true s)
solid_one (x ∷ t) [] a b s r p q e = absurd (false≢true r)
solid_one (x ∷ []) (y ∷ []) a b s r p q e = let same : x ≡ y = cc in ap (λ z. z ∷ []) same
solid_one (x ∷ []) (y ∷ z ∷ u) a b s r p q e =
    let same : a ≡ z ∷ u ++ b = cc in
    absurd (no_solid_blanks (z ∷ u) b r (subst (λ l. are_blanks l ≡ true) same p))
solid_one (x ∷ w ∷ t) (y ∷ []) a b s r p q e =
    let same : w ∷ t ++ a ≡ b = cc in
    absurd (no_solid_blanks (w ∷ t) a s (subst (λ l. are_blanks l ≡ true) (sym same) q))
solid_one (x ∷ w ∷ t) (y ∷ z ∷ u) a b s r p q e =
    let first : x ≡ y = cc in
    let rest : (w ∷ t) ++ a ≡ (z ∷ u) ++ b = cc in
    let more = solid_one (w ∷ t) (z ∷ u) a b s r p q rest in
    ap (λ k. k ∷ w ∷ t) first ∙ ap (λ l. y ∷ l) more

pub warning_one : (rest t u : List ℕ) → IsWarning rest t → IsWarning rest u → t ≡ u
warning_one rest t u a b = solid_one t u a.after b.after (solid_ends t a.solid) (solid_ends u b.solid) a.after_blank b.after_blank (sym (warning_at rest t a) ∙ warning_at rest u b)

first_solid_at : (byte : ℕ) (text : List ℕ) (t : Bool) → is_blank byte ≡ t → ((first : ℕ) (more : List ℕ) → without_blanks text ≡ first ∷ more → is_blank first ≡ false) → (first : ℕ) (more : List ℕ) → cond t (without_blanks text) (byte ∷ text) ≡ first ∷ more → is_blank first ≡ false
first_solid_at byte text true t ih first more e = ih first more e
first_solid_at byte text false t ih first more e = let same : byte ≡ first = cc in ap is_blank (sym same) ∙ t

first_solid : (text : List ℕ) (first : ℕ) (more : List ℕ) → without_blanks text ≡ first ∷ more → is_blank first ≡ false
first_solid [] first more e = absurd (cc)
first_solid (byte ∷ text) first more e = first_solid_at byte text (is_blank byte) refl (first_solid text) first more e

trimmed_solid : (rest text after : List ℕ) → without_blanks rest ≡ text ++ after → ends_solid text ≡ true → is_solid text ≡ true
trimmed_solid rest [] after e s = absurd (false≢true s)
trimmed_solid rest (byte ∷ text) after e s = and_from (not (is_blank byte)) (ends_solid (byte ∷ text)) (not_from_false (is_blank byte) (first_solid rest byte (text ++ after) e)) s

-- what is trimmed, and not empty, is the warning's text
pub is_warning : (rest text skipped after : List ℕ) → skipped ≡ without_blanks rest → are_blanks after ≡ true → skipped ≡ text ++ after → (text ≡ [] → ⊥) → (text ≡ []) ⊎ (ends_solid text ≡ true) → IsWarning rest text
is_warning rest text skipped after is blank split some ends =
    let k = before_of rest in
    let e : without_blanks rest ≡ text ++ after = sym is ∙ split in
    record { before = k.before; after = after; before_blank = k.blank; after_blank = blank; solid = trimmed_solid rest text after e (⊎_elim (λ n. absurd (some n)) (λ s. s) ends); split = k.split ∙ ap (λ l. k.before ++ l) e ∙ sym (append_assoc k.before text after) }

blank_first : (after : List ℕ) (rest : List ℕ) → are_blanks after ≡ true → without_blanks rest ≡ after → after ≡ []
blank_first [] rest b e = refl
blank_first (byte ∷ after) rest b e = absurd (true≢false (sym (and_parts (is_blank byte) (are_blanks after) b).0 ∙ first_solid rest byte after e))

not_nothing : (text after : List ℕ) → is_solid text ≡ true → text ++ after ≡ [] → ⊥
not_nothing [] after s e = false≢true s
not_nothing (byte ∷ text) after s e = cc

pub no_warning : (rest text skipped after : List ℕ) → skipped ≡ without_blanks rest → are_blanks after ≡ true → skipped ≡ text ++ after → text ≡ [] → (u : List ℕ) → IsWarning rest u → ⊥
no_warning rest text skipped after is blank split none u w =
    let e : without_blanks rest ≡ after = sym is ∙ split ∙ ap (λ l. l ++ after) none in
    not_nothing u w.after w.solid (sym (warning_at rest u w) ∙ e ∙ blank_first after rest blank e)

-- a warning's line has that text
pub warns : (line rest text : List ℕ) → StartsWarn line rest → IsWarning rest text → Warns line text
warns line rest text s w = record { rest = rest; starts = s; before = w.before; after = w.after; before_blank = w.before_blank; after_blank = w.after_blank; solid = w.solid; split = w.split }

pub warning_of : (line text : List ℕ) (w : Warns line text) → IsWarning w.rest text
warning_of line text w = record { before = w.before; after = w.after; before_blank = w.before_blank; after_blank = w.after_blank; solid = w.solid; split = w.split }

pub warn_rest_one : (line a b : List ℕ) → StartsWarn line a → StartsWarn line b → a ≡ b
warn_rest_one line a b s t = let e : Some a ≡ Some b = sym (warn_found line a s) ∙ warn_found line b t in cc
