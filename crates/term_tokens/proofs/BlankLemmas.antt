-- Blanks at the front of a text.
use Rattle.std.proofs.Common.{◌≡◌, ℕ, Bool, true, false, List, [], ◌∷◌, Some, None, cond, eqb, refl, sym, subst}
use Rattle.std.proofs.lemmas.Bool.{eqb-true, ne_eqb, false≢true}
use Rattle.term_tokens.specs.Names.{is_blank}
use Rattle.term_tokens.specs.Tokens.{Blanks, none, blank, comment, line_end}
use Rattle.term_tokens.specs.Lexing.{past_blank}

pub blanks_none : (text : List ℕ) → Blanks text text
blanks_none text = none

past_at : (byte : ℕ) (text rest end : List ℕ) (sharp white : Bool) → eqb byte 35 ≡ sharp → is_blank byte ≡ white → cond sharp (Some (line_end text)) (cond white (Some text) None) ≡ Some rest → Blanks rest end → Blanks (byte ∷ text) end
past_at byte text rest end true white s w e h =
    let e1 : line_end text ≡ rest = cc in
    let h1 : Blanks (line_end text) end = rw e1 h in
    subst (λ b. Blanks (b ∷ text) end) (sym (eqb-true byte 35 s)) (comment h1)
past_at byte text rest end false true s w e h =
    let e1 : text ≡ rest = cc in
    blank w (rw e1 h)
past_at byte text rest end false false s w e h = absurd (cc)

-- what blanks lead to behind a blank, they lead to before it
pub blanks_from_past : (text rest end : List ℕ) → past_blank text ≡ Some rest → Blanks rest end → Blanks text end
blanks_from_past [] rest end e h = absurd (cc)
blanks_from_past (byte ∷ text) rest end e h = past_at byte text rest end _ _ refl refl e h

blank_not_sharp : (byte : ℕ) → is_blank byte ≡ true → eqb byte 35 ≡ false
blank_not_sharp byte w = ne_eqb byte 35 (λ e. false≢true (subst (λ b. is_blank b ≡ true) e w))

pub blank_past : (byte : ℕ) (text : List ℕ) → is_blank byte ≡ true → past_blank (byte ∷ text) ≡ Some text
blank_past byte text w = rw (blank_not_sharp byte w, w) refl

-- blanks that lead past a first blank, lead on from there
pub blanks_after : {text end : List ℕ} (next : List ℕ) → past_blank text ≡ Some next → past_blank end ≡ None → Blanks text end → Blanks next end
blanks_after next some stop none = absurd (cc)
blanks_after next some stop (blank {byte = byte} {text = text} w h) =
    let e = blank_past byte text w in
    let same : text ≡ next = cc in
    rw (sym same) h
blanks_after next some stop (comment {text = text} h) =
    let same : line_end text ≡ next = cc in
    rw (sym same) h

pub blanks_stop : {rest : List ℕ} (end : List ℕ) → past_blank rest ≡ None → Blanks rest end → rest ≡ end
blanks_stop end stop none = refl
blanks_stop end stop (blank {byte = byte} {text = text} w h) = let e = blank_past byte text w in absurd (cc)
blanks_stop end stop (comment h) = absurd (cc)

-- blanks lead to one place where none follows
pub blanks_meet : {text rest : List ℕ} (end : List ℕ) → past_blank rest ≡ None → past_blank end ≡ None → Blanks text rest → Blanks text end → rest ≡ end
blanks_meet end here there none other = blanks_stop end here other
blanks_meet end here there (blank {byte = byte} {text = text} w h) other = blanks_meet end here there h (blanks_after text (blank_past byte text w) there other)
blanks_meet end here there (comment {text = text} h) other = blanks_meet end here there h (blanks_after (line_end text) refl there other)

pub blanks_join : {text middle : List ℕ} (end : List ℕ) → Blanks text middle → Blanks middle end → Blanks text end
blanks_join end none h = h
blanks_join end (blank w more) h = blank w (blanks_join end more h)
blanks_join end (comment more) h = comment (blanks_join end more h)
