-- Frames show by themselves where they end, and streams of them.
use Rattle.std.proofs.Common.{◌≡◌, ℕ, ◌+◌, List, [], ◌∷◌, ◌++◌, length, refl, sym, ap, ◌∙◌, arith, subst, append_assoc, append-nil, length-append}
use Rattle.std.specs.Prelude.{flat_map}
use Rattle.std.specs.List.{AllByRecursion}
use Rattle.reading.specs.Field.{TellsItsEnd}
use Rattle.reading.proofs.Fields.{same_rest}
use Rattle.reading.proofs.Numbers.{same_front}
use Rattle.partition_frames.specs.declared.error.FrameCause.{FrameCause}
use Rattle.partition_frames.specs.declared.error.FrameCause.TheVariants.{BadLength, BadKind, BadBody, OutOfMemory}
use Rattle.partition_frames.specs.declared.frame.Frame.{Frame}
use Rattle.partition_frames.specs.declared.frame.Frame.TheVariants.{Hello, Job, Verdict, Bye}
use Rattle.partition_frames.specs.Field.{together}
use Rattle.partition_frames.specs.Frame.{IsFrame, IsNumber, Spells, Stands, fields_of, frame_text, kind_of, number, payload_of}
use Rattle.partition_frames.specs.Reading.{HasSize, IsInRange, IsKind, IsNoBody, IsOfKind, IsRefused, NeedsMore}
use Rattle.partition_frames.specs.Reading.IsNoBody.{AtField, LeftOver}
use Rattle.partition_frames.specs.Reading.NeedsMore.{InLength, InFrame}
use Rattle.partition_frames.specs.Stream.{Gives, GivesAll}
use Rattle.partition_frames.proofs.Bodies.{bye_tells, hello_tells, job_tells, verdict_tells}
use Rattle.partition_frames.proofs.Lacking.{Tells}
use Rattle.partition_frames.proofs.Sequences.{one_more_fits}
use Rattle.partition_frames.proofs.Singles.{number_long, number_tells}

-- ---- bodies and frames

tells_as : (a : Frame) → Tells fields_of (IsOfKind (kind_of a))
tells_as (Hello cookie index) = hello_tells
tells_as (Job n env app options how system_env dir needs) = job_tells
tells_as (Verdict n status text) = verdict_tells
tells_as Bye = bye_tells

-- no body of a kind is the beginning of another's
pub body_tells : (kind : ℕ) → Tells fields_of (IsOfKind kind)
body_tells kind a b x y fa fb e = tells_as a a b x y (refl, fa.1) (fb.0 ∙ sym fa.0, fb.1) e

head_same : (a b : ℕ) (s t : List ℕ) → a ∷ s ≡ b ∷ t → a ≡ b
head_same a b s t e = cc

tail_same : (a b : ℕ) (s t : List ℕ) → a ∷ s ≡ b ∷ t → s ≡ t
tail_same a b s t e = cc

small_number : (frame : Frame) → IsFrame frame → IsNumber (length (payload_of frame))
small_number frame is = omega (arith, is.small)

pub frame_tells : TellsItsEnd frame_text IsFrame
frame_tells a b x y fa fb e =
    let p = payload_of a in
    let q = payload_of b in
    let cut = sym (append_assoc (number (length p)) p x) ∙ e ∙ append_assoc (number (length q)) q y in
    let both = same_rest number IsNumber number_tells (length p) (length q) (p ++ x) (q ++ y) (small_number a fa) (small_number b fb) cut in
    let same = same_front p q x y both.0 both.1 in
    let kinds = head_same (kind_of a) (kind_of b) (together (fields_of a)) (together (fields_of b)) same in
    let bodies = tail_same (kind_of a) (kind_of b) (together (fields_of a)) (together (fields_of b)) same in
    body_tells (kind_of b) a b [] [] (kinds, fa.sound) (refl, fb.sound) (ap (λ t. t ++ []) bodies)

pub one_frame : (bytes : List ℕ) (a b : Frame) → Spells bytes a → Spells bytes b → a ≡ b
one_frame bytes a b sa sb = frame_tells a b [] [] sa.0 sb.0 (ap (λ t. t ++ []) (sym sa.1 ∙ sb.1))

pub no_frame_begins_another : (bytes more : List ℕ) (a b : Frame) → Spells bytes a → Spells (bytes ++ more) b → more ≡ []
no_frame_begins_another bytes more a b sa sb =
    (same_rest frame_text IsFrame frame_tells a b more [] sa.0 sb.0
    (ap (λ t. t ++ more) (sym sa.1) ∙ sb.1 ∙ sym (append-nil (frame_text b)))).1

-- ---- what stands at the front

-- the length of a frame is that which is stated
stated_is : (bytes rest : List ℕ) (size : ℕ) (frame : Frame) (behind : List ℕ) → HasSize bytes size rest → Stands bytes frame behind
    → (size ≡ length (payload_of frame)) × (rest ≡ payload_of frame ++ behind)
stated_is bytes rest size frame behind h s =
    same_rest number IsNumber number_tells size (length (payload_of frame)) rest (payload_of frame ++ behind) h.fits (small_number frame s.0)
    (sym h.cut ∙ s.1 ∙ append_assoc (number (length (payload_of frame))) (payload_of frame) behind)

range_is : (frame : Frame) → IsFrame frame → IsInRange (length (payload_of frame))
range_is frame is = record { some = omega arith; few = is.small }

kind_is : (frame : Frame) → IsKind (kind_of frame)
kind_is (Hello cookie index) = (omega arith, omega arith)
kind_is (Job n env app options how system_env dir needs) = (omega arith, omega arith)
kind_is (Verdict n status text) = (omega arith, omega arith)
kind_is Bye = (omega arith, omega arith)

frame_long : (frame : Frame) (rest : List ℕ) → length (frame_text frame ++ rest) ≡ 4 + length (payload_of frame) + length rest
frame_long frame rest =
    length-append (frame_text frame) rest
    ∙ omega (arith, length-append (number (length (payload_of frame))) (payload_of frame), number_long (length (payload_of frame)))

pub none_in_part : (bytes rest : List ℕ) (frame : Frame) → NeedsMore bytes → Stands bytes frame rest → ⊥
none_in_part bytes rest frame (InLength short) s = omega (arith, short, ap length s.1, frame_long frame rest)
none_in_part bytes rest frame (InFrame size o short) s =
    let is = stated_is bytes o.rest size frame rest o.stated s in
    omega (arith, short, is.0, ap length s.1, frame_long frame rest)

no_such_body : (kind inside : ℕ) (body behind rest : List ℕ) (frame : Frame) → IsNoBody kind body inside → IsFrame frame
    → length (kind ∷ body) ≡ length (payload_of frame) → kind ∷ (body ++ behind) ≡ payload_of frame ++ rest → ⊥
no_such_body kind inside body behind rest frame refused is long e = at refused
  where
    same : kind ∷ body ≡ payload_of frame
    same = same_front (kind ∷ body) (payload_of frame) behind rest long e

    of_kind : IsOfKind kind frame
    of_kind = (sym (head_same kind (kind_of frame) body (together (fields_of frame)) same), is.sound)

    whole : body ≡ together (fields_of frame)
    whole = tail_same kind (kind_of frame) body (together (fields_of frame)) same

    at : IsNoBody kind body inside → ⊥
    at (AtField l) = l.nothing frame [] of_kind (whole ∙ sym (append-nil (together (fields_of frame))))
    at (LeftOver other byte others other_is cut place) =
        let both = same_rest (λ f. together (fields_of f)) (IsOfKind kind) (body_tells kind) frame other [] (byte ∷ others) of_kind other_is
        (append-nil (together (fields_of frame)) ∙ sym whole ∙ cut) in
        absurd (omega (arith, ap length both.1))

pub none_where_refused : (bytes rest : List ℕ) (cause : FrameCause) (at : ℕ) (frame : Frame) → IsRefused bytes cause at → Stands bytes frame rest → ⊥
none_where_refused bytes rest BadLength at frame r s =
    let is = stated_is bytes r.1.rest r.1.size frame rest r.1.stated s in
    r.1.outside (subst IsInRange (sym is.0) (range_is frame s.0))
none_where_refused bytes rest BadKind at frame r s =
    let is = stated_is bytes (r.1.kind ∷ r.1.rest) r.1.size frame rest r.1.stated s in
    r.1.unknown (subst IsKind (sym (head_same r.1.kind (kind_of frame) r.1.rest (together (fields_of frame) ++ rest) is.1)) (kind_is frame))
none_where_refused bytes rest BadBody at frame r s =
    let is = stated_is bytes (r.kind ∷ (r.body ++ r.behind)) (length (r.kind ∷ r.body)) frame rest r.stated s in
    no_such_body r.kind r.inside r.body r.behind rest frame r.refused s.0 is.0 is.1
none_where_refused bytes rest OutOfMemory at frame r s = r

-- ---- streams

same_cons : (a b : Frame) (s t : List Frame) → a ≡ b → s ≡ t → a ∷ s ≡ b ∷ t
same_cons a b s t e f = cc

abbrev Ends : List ℕ → Type 0
Ends left = (frame : Frame) (rest : List ℕ) → Stands left frame rest → ⊥

same_frames : (a b : List Frame) (left other : List ℕ) → AllByRecursion IsFrame a → AllByRecursion IsFrame b → Ends left → Ends other
    → flat_map frame_text a ++ left ≡ flat_map frame_text b ++ other → (a ≡ b) × (left ≡ other)
same_frames [] [] left other fa fb none none_other e = (refl, e)
same_frames [] (f ∷ b) left other fa fb none none_other e =
    absurd (none f (flat_map frame_text b ++ other) (fb.0, e ∙ append_assoc (frame_text f) (flat_map frame_text b) other))
same_frames (f ∷ a) [] left other fa fb none none_other e =
    absurd (none_other f (flat_map frame_text a ++ left) (fa.0, sym e ∙ append_assoc (frame_text f) (flat_map frame_text a) left))
same_frames (f ∷ a) (g ∷ b) left other fa fb none none_other e =
    let cut = sym (append_assoc (frame_text f) (flat_map frame_text a) left) ∙ e ∙ append_assoc (frame_text g) (flat_map frame_text b) other in
    let both = same_rest frame_text IsFrame frame_tells f g (flat_map frame_text a ++ left) (flat_map frame_text b ++ other) fa.0 fb.0 cut in
    let rest = same_frames a b left other fa.1 fb.1 none none_other both.1 in
    (same_cons f g a b both.0 rest.0, rest.1)

pub one_cut : (stream left other : List ℕ) (a b : List Frame) → GivesAll stream a left → GivesAll stream b other → (a ≡ b) × (left ≡ other)
one_cut stream left other a b ga gb =
    same_frames a b left other ga.gives.are gb.gives.are ga.none gb.none (sym ga.gives.cut ∙ gb.gives.cut)

pub pushed : (stream left piece : List ℕ) (frames : List Frame) → Gives stream frames left → Gives (stream ++ piece) frames (left ++ piece)
pushed stream left piece frames g =
    record { are = g.are; cut = ap (λ t. t ++ piece) g.cut ∙ append_assoc (flat_map frame_text frames) left piece }

flat_more : (frames : List Frame) (frame : Frame) → flat_map frame_text (frames ++ frame ∷ []) ≡ flat_map frame_text frames ++ frame_text frame
flat_more [] frame = append-nil (frame_text frame)
flat_more (f ∷ frames) frame =
    ap (λ t. frame_text f ++ t) (flat_more frames frame) ∙ sym (append_assoc (frame_text f) (flat_map frame_text frames) (frame_text frame))

pub given : (stream left rest : List ℕ) (frames : List Frame) (frame : Frame) → Gives stream frames left → Stands left frame rest
    → Gives stream (frames ++ frame ∷ []) rest
given stream left rest frames frame g s = record {
  are = one_more_fits IsFrame frames frame g.are s.0;
  cut = g.cut ∙ ap (λ t. flat_map frame_text frames ++ t) s.1 ∙ sym (append_assoc (flat_map frame_text frames) (frame_text frame) rest)
      ∙ ap (λ t. t ++ rest) (sym (flat_more frames frame));
}
