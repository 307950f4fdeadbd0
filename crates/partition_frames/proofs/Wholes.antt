-- Frames that stand whole, and what stands of others.
use Rattle.std.proofs.Common.{◌≡◌, ℕ, zero, suc, ◌+◌, ◌-◌, ◌<◌, ◌≤◌, List, [], ◌∷◌, ◌++◌, length, get_or, take, drop, refl, sym, ap, ◌∙◌, arith, subst, append_assoc, append-nil, length-append, take-append-drop, length-drop}
use Rattle.std.proofs.lemmas.List.{length-take}
use Rattle.std.proofs.Math.Seq.{take-append-add}
use Rattle.std.specs.Prelude.{MatchOption, MatchResult, Option, Some, None, slice_get, Result, Ok, Err, min}
use Rattle.mx_base.specs.Blame.{Computes, is_outside}
use Rattle.partition_frames.specs.declared.error.FrameError.{FrameError}
use Rattle.partition_frames.specs.declared.error.FrameCause.{FrameCause}
use Rattle.partition_frames.specs.declared.error.FrameCause.TheVariants.{BadLength, BadKind, BadBody, OutOfMemory}
use Rattle.partition_frames.specs.declared.frame.Frame.{Frame}
use Rattle.partition_frames.specs.Field.{together}
use Rattle.partition_frames.specs.Frame.{Spells, fields_of, frame_text, kind_of, number, payload_of}
use Rattle.partition_frames.specs.Pieces.{LacksBefore}
use Rattle.partition_frames.specs.Reading.{HasBody, HasSize, IsBadBody, IsBadKind, IsFront, IsInRange, IsNoBody, IsOfKind, IsRefused, IsWhole, IsWholeReading, MayHaveKind, Opens, blame_of, blame_of_cause}
use Rattle.partition_frames.specs.Reading.IsNoBody.{AtField, LeftOver}
use Rattle.partition_frames.specs.Reading.NeedsMore.{InFrame}
use Rattle.partition_frames.specs.Stream.{IsNext}
use Rattle.circular_buffer.specs.Buffer.{Buffer, buffer, keep_last}
use Rattle.partition_frames.proofs.Singles.{number_long}

-- ---- more bytes behind

pub size_stays : (bytes more rest : List ℕ) (size : ℕ) → HasSize bytes size rest → HasSize (bytes ++ more) size (rest ++ more)
size_stays bytes more rest size h =
    record { fits = h.fits; cut = ap (λ t. t ++ more) h.cut ∙ append_assoc (number size) rest more }

pub refusal_stays : (bytes more : List ℕ) (cause : FrameCause) (at : ℕ) → IsRefused bytes cause at → IsRefused (bytes ++ more) cause at
refusal_stays bytes more BadLength at r =
    (r.0, record { size = r.1.size; rest = r.1.rest ++ more; stated = size_stays bytes more r.1.rest r.1.size r.1.stated; outside = r.1.outside })
refusal_stays bytes more BadKind at r = (
  r.0,
  record {
    size = r.1.size;
    kind = r.1.kind;
    rest = r.1.rest ++ more;
    stated = size_stays bytes more (r.1.kind ∷ r.1.rest) r.1.size r.1.stated;
    range = r.1.range;
    unknown = r.1.unknown;
  },
)
refusal_stays bytes more BadBody at r = record {
  kind = r.kind;
  body = r.body;
  behind = r.behind ++ more;
  stated = subst (λ t. HasSize (bytes ++ more) (length (r.kind ∷ r.body)) (r.kind ∷ t)) (append_assoc r.body r.behind more)
      (size_stays bytes more (r.kind ∷ (r.body ++ r.behind)) (length (r.kind ∷ r.body)) r.stated);
  range = r.range;
  known = r.known;
  inside = r.inside;
  refused = r.refused;
  place = r.place;
}
refusal_stays bytes more OutOfMemory at r = absurd r

-- ---- kind and body of a whole frame

pub whole_body : (bytes : List ℕ) → IsWhole bytes → HasBody bytes (get_or bytes 4 0) (drop 5 bytes)
whole_body bytes w = at w.opens.rest w.opens.stated w.opens.kind
  where
    at : (rest : List ℕ) → HasSize bytes w.size rest → MayHaveKind rest → HasBody bytes (get_or bytes 4 0) (drop 5 bytes)
    at [] h may = absurd (omega (arith, w.all, w.opens.range.some, ap length h.cut, length-append (number w.size) [], number_long w.size))
    at (k ∷ r) h may =
        let kind : k ≡ get_or bytes 4 0 = sym (ap (λ (t : List ℕ). get_or t 4 0) h.cut) in
        let body : r ≡ drop 5 bytes = sym (ap (λ (t : List ℕ). drop 5 t) h.cut) in
        let long : w.size ≡ length (k ∷ r) =
        omega (arith, w.all, ap length h.cut, length-append (number w.size) (k ∷ r), number_long w.size) in
        let is : HasBody bytes k r = record {
          known = may;
          stated = subst (λ n. HasSize bytes n (k ∷ r)) long h;
          range = subst IsInRange long w.opens.range;
        } in
        subst (λ t. HasBody bytes (get_or bytes 4 0) t) body (subst (λ n. HasBody bytes n r) kind is)

payload_is : (kind : ℕ) (body : List ℕ) (frame : Frame) → IsOfKind kind frame → body ≡ together (fields_of frame) → kind ∷ body ≡ payload_of frame
payload_is kind body frame is e = ap (λ k. k ∷ body) (sym is.0) ∙ ap (λ t. kind_of frame ∷ t) e

no_more : (rest : List ℕ) → length rest ≡ 0 → rest ≡ []
no_more [] e = refl
no_more (r ∷ rest) e = absurd (omega (arith, e))

pub whole_spelled : (bytes body rest : List ℕ) (kind : ℕ) (frame : Frame) → HasBody bytes kind body → IsOfKind kind frame
    → body ≡ together (fields_of frame) ++ rest → length rest ≡ 0 → Spells bytes frame
whole_spelled bytes body rest kind frame h is cut none =
    let all : body ≡ together (fields_of frame) =
    cut ∙ ap (λ t. together (fields_of frame) ++ t) (no_more rest none) ∙ append-nil (together (fields_of frame)) in
    let payload = payload_is kind body frame is all in (
      record { small = omega (arith, ap length payload, h.range.few); sound = is.1 },
      h.stated.cut ∙ ap (λ t. number (length t) ++ t) payload,
    )

-- ---- refusals of its body

bad_body : (bytes body : List ℕ) (kind inside at : ℕ) → HasBody bytes kind body → IsNoBody kind body inside → at ≡ 5 + inside → IsBadBody bytes at
bad_body bytes body kind inside at h refused place = record {
  kind = kind;
  body = body;
  behind = [];
  stated = subst (λ t. HasSize bytes (length (kind ∷ body)) (kind ∷ t)) (sym (append-nil body)) h.stated;
  range = h.range;
  known = h.known;
  inside = inside;
  refused = refused;
  place = place;
}

long_body : (bytes body : List ℕ) (kind : ℕ) → HasBody bytes kind body → length bytes ≡ 5 + length body
long_body bytes body kind h =
    omega (arith, ap length h.stated.cut, length-append (number (length (kind ∷ body))) (kind ∷ body), number_long (length (kind ∷ body)))

pub refused_at_field : (bytes body : List ℕ) (kind left at : ℕ) → HasBody bytes kind body → LacksBefore fields_of (IsOfKind kind) body left
    → at + left ≡ length bytes → IsBadBody bytes at
refused_at_field bytes body kind left at h l place =
    bad_body bytes body kind l.at at h (AtField l.lacks) (omega (arith, place, l.sum, long_body bytes body kind h))

pub refused_left_over : (bytes body rest : List ℕ) (kind at : ℕ) (frame : Frame) → HasBody bytes kind body → IsOfKind kind frame
    → body ≡ together (fields_of frame) ++ rest → 0 < length rest → at + length rest ≡ length bytes → IsBadBody bytes at
refused_left_over bytes body [] kind at frame h is cut some place = absurd (omega (arith, some))
refused_left_over bytes body (byte ∷ others) kind at frame h is cut some place =
    let inside = length (together (fields_of frame)) in
    bad_body bytes body kind inside at h (LeftOver frame byte others is cut refl)
    (omega (arith, place, long_body bytes body kind h, ap length cut, length-append (together (fields_of frame)) (byte ∷ others)))

-- a field is lacking within the body
pub left_within : (bytes body : List ℕ) (kind left : ℕ) → HasBody bytes kind body → LacksBefore fields_of (IsOfKind kind) body left → left ≤ length bytes
left_within bytes body kind left h l = omega (arith, l.sum, long_body bytes body kind h)

-- ---- the front of longer bytes

kind_of_front : (size : ℕ) (rest : List ℕ) → 0 < size → MayHaveKind rest → MayHaveKind (take size rest)
kind_of_front zero rest some may = absurd (omega (arith, some))
kind_of_front (suc n) [] some may = tt
kind_of_front (suc n) (k ∷ rest) some may = may

pub front_whole : (bytes : List ℕ) (size used : ℕ) → Opens bytes size → used ≡ 4 + size → used ≤ length bytes → IsWhole (take used bytes)
front_whole bytes size used o is stands =
    let h = o.stated in
    let cut : take used bytes ≡ number size ++ take size o.rest =
    ap (λ n. take n bytes) is ∙ ap (take (4 + size)) h.cut ∙ take-append-add (number size) o.rest size in
    record {
      size = size;
      opens = record {
        rest = take size o.rest;
        stated = record { fits = h.fits; cut = cut };
        range = o.range;
        kind = kind_of_front size o.rest o.range.some o.kind;
      };
      all = length-take used bytes ∙ omega (arith, is, stands);
    }

pub front_read : (bytes : List ℕ) (used : ℕ) (frame : Frame) → used ≤ length bytes → Spells (take used bytes) frame → IsFront bytes frame used
front_read bytes used frame stands s = record {
  rest = drop used bytes;
  stands = (s.0, sym (take-append-drop used bytes) ∙ ap (λ t. t ++ drop used bytes) s.1);
  used_is = omega (arith, length-drop used bytes, stands);
}

pub front_refused : (bytes : List ℕ) (used : ℕ) (cause : FrameCause) (at : ℕ) → IsRefused (take used bytes) cause at → IsRefused bytes cause at
front_refused bytes used cause at r =
    subst (λ t. IsRefused t cause at) (take-append-drop used bytes) (refusal_stays (take used bytes) (drop used bytes) cause at r)

-- ---- a kind that is none

pub bad_kind : (bytes rest : List ℕ) (size : ℕ) → HasSize bytes size rest → IsInRange size → (MayHaveKind rest → ⊥) → IsBadKind bytes
bad_kind bytes [] size h range bad = absurd (bad tt)
bad_kind bytes (kind ∷ rest) size h range bad = record { size = size; kind = kind; rest = rest; stated = h; range = range; unknown = bad }

pub some_left : (rest : List ℕ) → (length rest ≡ 0 → ⊥) → 0 < length rest
some_left [] some = absurd (some refl)
some_left (r ∷ rest) some = omega arith

-- ---- the answer of a whole frame

pub refused_answer : (bytes : List ℕ) (e : FrameError) → e.cause ≡ BadBody → IsBadBody bytes e.at
    → Computes {X = Frame} blame_of (Err e) (IsWholeReading bytes)
refused_answer bytes e cause bad = record {
  answer = λ _. subst (λ c. IsRefused bytes c e.at) (sym cause) bad;
  alone = ap (λ c. is_outside (blame_of_cause c)) cause;
}

-- ---- the first five bytes

kind_stays : (front rest : List ℕ) → MayHaveKind front → (front ≡ [] → rest ≡ []) → MayHaveKind (front ++ rest)
kind_stays [] rest may none = subst MayHaveKind (sym (none refl)) may
kind_stays (k ∷ front) rest may none = may

past_all : (items : List ℕ) → length items ≤ 5 → drop 5 items ≡ []
past_all items short = none_left (drop 5 items) (omega (arith, length-drop 5 items, short))
  where
    none_left : (l : List ℕ) → length l ≡ 0 → l ≡ []
    none_left [] e = refl
    none_left (x ∷ l) e = absurd (omega (arith, e))

pub head_opens : (items : List ℕ) (size : ℕ) → Opens (take 5 items) size → Opens items size
head_opens items size o = record {
  rest = o.rest ++ drop 5 items;
  stated = record {
    fits = o.stated.fits;
    cut = sym (take-append-drop 5 items) ∙ ap (λ t. t ++ drop 5 items) o.stated.cut ∙ append_assoc (number size) o.rest (drop 5 items);
  };
  range = o.range;
  kind = kind_stays o.rest (drop 5 items) o.kind
      (λ none. past_all items (omega (arith, length-take 5 items, ap length o.stated.cut, ap length none, length-append (number size) o.rest, number_long size)));
}

pub head_taken : (items : List ℕ)
    → take (min (length items) 5) (get_or items 0 0 ∷ get_or items 1 0 ∷ get_or items 2 0 ∷ get_or items 3 0 ∷ get_or items 4 0 ∷ []) ≡ take 5 items
head_taken [] = refl
head_taken (a ∷ []) = refl
head_taken (a ∷ b ∷ []) = refl
head_taken (a ∷ b ∷ c ∷ []) = refl
head_taken (a ∷ b ∷ c ∷ d ∷ []) = refl
head_taken (a ∷ b ∷ c ∷ d ∷ e ∷ rest) =
    let five : min (length (a ∷ b ∷ c ∷ d ∷ e ∷ rest)) 5 ≡ 5 = omega arith in
    ap (λ n. take n (a ∷ b ∷ c ∷ d ∷ e ∷ [])) five

-- what the first bytes open the whole does
pub head_told : (items : List ℕ) (r : Result (Option ℕ) FrameError)
    → MatchResult r (λ size. MatchOption size (length (take 5 items) < 4) (Opens (take 5 items))) (λ e. IsRefused (take 5 items) e.cause e.at)
    → MatchResult r (λ size. MatchOption size (length items < 4) (Opens items)) (λ e. IsRefused items e.cause e.at)
head_told items (Ok None) told = omega (arith, told, length-take 5 items)
head_told items (Ok (Some size)) told = head_opens items size told
head_told items (Err e) told = front_refused items 5 e.cause e.at told

-- ---- what a reader answers

pub none_at : (items : List ℕ) (i : ℕ) → None ≡ slice_get items i → 0 ≡ get_or items i 0
none_at [] i e = refl
none_at (x ∷ items) zero e = absurd (cc e)
none_at (x ∷ items) (suc i) e = none_at items i e

pub next_none : (held items : List ℕ) (size n : ℕ) → held ≡ items → Opens items size → n ≡ length items → n < 4 + size
    → Computes {X = Option Frame} blame_of (Ok None) (IsNext held held)
next_none held items size n same o long short = record {
  answer = InFrame size (subst (λ t. Opens t size) (sym same) o) (omega (arith, long, short, ap length same));
  alone = refl;
}

pub next_refused : (held items left : List ℕ) (used : ℕ) (e : FrameError) → held ≡ items
    → Computes {X = Frame} blame_of (Err e) (IsWholeReading (take used items)) → Computes {X = Option Frame} blame_of (Err e) (IsNext held left)
next_refused held items left used e same r = record {
  answer = λ input. subst (λ t. IsRefused t e.cause e.at) (sym same) (front_refused items used e.cause e.at (r.answer input));
  alone = r.alone;
}

pub next_given : (held items left : List ℕ) (used : ℕ) (frame : Frame) → held ≡ items → Spells (take used items) frame → left ≡ drop used items
    → Computes {X = Option Frame} blame_of (Ok (Some frame)) (IsNext held left)
next_given held items left used frame same s behind = record {
  answer = (s.0, same ∙ sym (take-append-drop used items) ∙ ap (λ t. t ++ drop used items) s.1 ∙ ap (λ t. frame_text frame ++ t) (sym behind));
  alone = refl;
}

pub left_behind : (before read after : Buffer ℕ) (n used : ℕ) → read ≡ before → n ≡ length before.items → used ≤ n
    → after ≡ buffer (keep_last (n - used) read.items) read.capacity → after.items ≡ drop used before.items
left_behind before read after n used same long few e =
    let skipped : length before.items - (n - used) ≡ used = omega (arith, long, few) in
    ap (λ (b : Buffer ℕ). b.items) e ∙ ap (λ (b : Buffer ℕ). keep_last (n - used) b.items) same ∙ ap (λ k. drop k before.items) skipped
