-- Where what stands between quotes can no more become UTF-8.
use Rattle.std.proofs.Common.{◌≡◌, ℕ, zero, suc, ◌+◌, ◌<◌, ◌≤◌, Bool, true, false, List, [], ◌∷◌, ◌++◌, Option, Some, None, length, take, cond, refl, sym, ap, ◌∙◌, arith, subst, append_assoc}
use Rattle.std.proofs.lemmas.List.{take_at, length-append}
use Rattle.std.proofs.lemmas.Str.{IsUtf8-nil}
use Rattle.std.specs.Str.{IsUtf8}
use Rattle.term_tokens.specs.Lexed.{can_become, spelt_at, stuck_item, kept, stuck_past, stuck_at}
use Rattle.term_tokens.specs.Lexing.{next_at, before, quoted_at}
use Rattle.term_tokens.specs.Local.{starts_with}
use Rattle.term_tokens.specs.Strings.{Quoted}
use Rattle.term_tokens.proofs.StringLemmas.{spelt_next, spelt_stop}
use Rattle.term_tokens.proofs.Utf8Lemmas.{front_can}
use Rattle.term_tokens.proofs.StuckItems.{Opens, Never, Stuck, Free, Item, IsItem, item_of, item_split, item_shorter, item_seam, item_quoted, item_found, stuck_next, stuck_end, kept_forth, kept_back, kept_can}
use Rattle.term_tokens.proofs.StuckSteps.{opens_none, spoils}

-- ---- the whole inside

abbrev pub Walked : List ℕ → List ℕ → Option (List ℕ) → Type 0
Walked bytes text None = Free bytes text
Walked bytes text (Some place) = Stuck bytes text place

module _ (bytes text word value after : List ℕ) (i : Item text word value after) (e : next_at text ≡ Some (value, after)) where
  same_rest : (spelt_at text).1 ≡ (spelt_at after).1
  same_rest = ap (λ s. s.1) (spelt_next text value after e)

  opens_on : (front : List ℕ) → Opens (kept (bytes ++ value)) after front → Opens bytes text (word ++ front)
  opens_on front o = record {
    more = o.more;
    spelled = value ++ o.spelled;
    quoted = subst (λ l. Quoted l (value ++ o.spelled)) (sym (append_assoc word front o.more)) (item_quoted i (front ++ o.more) o.spelled o.quoted o.seam);
    utf8 = subst IsUtf8 (append_assoc bytes value o.spelled) (kept_forth (bytes ++ value) o.spelled o.utf8);
    seam = λ s. ap (starts_with 123) (append_assoc word front o.more) ∙ item_seam i (front ++ o.more) ∙ s;
  }

  never_on : (part : List ℕ) → Never (kept (bytes ++ value)) part → Never bytes (word ++ part)
  never_on part n more found h u =
      let f = item_found i (part ++ more) found (ap quoted_at (sym (append_assoc word part more)) ∙ h) in
      n more f.0 f.1 (kept_back (bytes ++ value) f.0.0 (subst IsUtf8 (ap (λ l. bytes ++ l) f.2 ∙ sym (append_assoc bytes value f.0.0)) u))

  walk_on : (o : Option (List ℕ)) → Walked (kept (bytes ++ value)) after o → Walked bytes text o
  walk_on None w = record {
    front = word ++ w.front;
    split = item_split i ∙ ap (λ l. word ++ l) (w.split ∙ ap (λ l. w.front ++ l) (sym same_rest)) ∙ sym (append_assoc word w.front (spelt_at text).1);
    opens = opens_on w.front w.opens;
  }
  walk_on (Some place) w = record {
    front = word ++ w.front;
    byte = w.byte;
    after = w.after;
    split = item_split i ∙ ap (λ l. word ++ l) w.split ∙ sym (append_assoc word w.front (w.byte ∷ w.after));
    here = w.here;
    opens = opens_on w.front w.opens;
    shut = subst (λ l. Never bytes l) (sym (append_assoc word w.front (w.byte ∷ []))) (never_on (w.front ++ w.byte ∷ []) w.shut);
    early = subst (λ l. length l < length place) (sym same_rest) w.early;
  }

walk_end : (bytes text : List ℕ) → can_become bytes ≡ true → next_at text ≡ None → Walked bytes text (stuck_past text 0 bytes)
walk_end bytes text c e = subst (λ o. Walked bytes text o) (sym (stuck_end text bytes e)) (record { front = []; split = ap (λ s. s.1) (sym (spelt_stop text e)); opens = opens_none bytes text c })

-- one item, where what follows it is walked already
walk_item : (bytes text : List ℕ) → can_become bytes ≡ true → ((bytes2 after : List ℕ) → length after < length text → can_become bytes2 ≡ true → Walked bytes2 after (stuck_past after 0 bytes2)) → (o : Option (List ℕ × List ℕ)) → next_at text ≡ o → Walked bytes text (stuck_past text 0 bytes)
walk_item bytes text c rest None e = walk_end bytes text c e
walk_item bytes text c rest (Some f) e = subst (λ o. Walked bytes text o) (sym (stuck_next text f.0 f.1 bytes e)) (by (item_of text f.0 f.1 e) (can_become (bytes ++ f.0)) refl)
  where
    by : IsItem text f.0 f.1 → (can : Bool) → can_become (bytes ++ f.0) ≡ can → Walked bytes text (cond can (stuck_past f.1 0 (kept (bytes ++ f.0))) (Some (stuck_item bytes text)))
    by i true k = walk_on bytes text i.0 f.0 f.1 i.1 e (stuck_past f.1 0 (kept (bytes ++ f.0))) (rest (kept (bytes ++ f.0)) f.1 (item_shorter i.1) (kept_can (bytes ++ f.0) k))
    by i false k = spoils bytes text i.0 f.0 f.1 i.1 e c k

walk : (n : ℕ) (bytes text : List ℕ) → length text ≤ n → can_become bytes ≡ true → Walked bytes text (stuck_past text 0 bytes)
walk zero bytes text l c = walk_item bytes text c (λ bytes2 after k d. absurd (omega (arith, k, l))) (next_at text) refl
walk (suc n) bytes text l c = walk_item bytes text c (λ bytes2 after k d. walk n bytes2 after (omega (arith, k, l)) d) (next_at text) refl

pub walked : (text : List ℕ) → Walked [] text (stuck_at text)
walked text = walk (length text) [] text (omega arith) (front_can [] [] IsUtf8-nil)

-- the front that is free is what stands before the rest
pub free_front : (text inside : List ℕ) → Free [] text → text ≡ inside ++ (spelt_at text).1 → Opens [] text inside
free_front text inside w s =
    let rest = (spelt_at text).1 in
    let both : w.front ++ rest ≡ inside ++ rest = sym w.split ∙ s in
    let long : length inside ≡ length w.front = omega (arith, ap length both, length-append w.front rest, length-append inside rest) in
    let same : w.front ≡ inside = sym (take_at w.front rest (length w.front) refl) ∙ ap (take (length w.front)) both ∙ take_at inside rest (length w.front) long in
    subst (λ l. Opens [] text l) same w.opens
