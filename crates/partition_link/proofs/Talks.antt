-- Talks that go on, and what is heard on the way.
use Rattle.std.proofs.Common.{◌≡◌, ℕ, Bool, true, false, ◌||◌, List, [], ◌++◌, Option, Some, None, option_map, refl, ap, sym, ◌∙◌, append_assoc, append-nil}
use Rattle.partition_face.specs.Links.{Talk, with_sent}
use Rattle.partition_link.specs.Channel.{Channel, Fills, goes_on, hears}

or_false : (b : Bool) → (b || false) ≡ b
or_false true = refl
or_false false = refl

-- a talk by its parts
same_talk : (talk : Talk) (sent came : List ℕ) (closed : Bool) → talk.sent ≡ sent → talk.came ≡ came → talk.closed ≡ closed
    → Some talk ≡ Some (record { sent = sent; came = came; closed = closed })
same_talk talk sent came closed same_sent same_came same_end =
    let first : Some talk ≡ Some (record { sent = sent; came = talk.came; closed = talk.closed }) =
    ap (λ bytes. Some (record { sent = bytes; came = talk.came; closed = talk.closed })) same_sent in
    let second : Some (record { sent = sent; came = talk.came; closed = talk.closed }) ≡ Some (record { sent = sent; came = came; closed = talk.closed }) =
    ap (λ bytes. Some (record { sent = sent; came = bytes; closed = talk.closed })) same_came in
    first ∙ second ∙ ap (λ end. Some (record { sent = sent; came = came; closed = end })) same_end

-- nothing more was said
pub nothing_said : (told : Option Talk) → told ≡ option_map (goes_on (record { sent = []; came = []; closed = false })) told
nothing_said None = refl
nothing_said (Some talk) = same_talk talk _ _ _ (sym (append-nil talk.sent)) (sym (append-nil talk.came)) (sym (or_false talk.closed))

pub only_sent : (told : Option Talk) (sent : List ℕ) → option_map (with_sent sent) told ≡ option_map (goes_on (record { sent = sent; came = []; closed = false })) told
only_sent None sent = refl
only_sent (Some talk) sent = same_talk (with_sent sent talk) _ _ _ refl (sym (append-nil talk.came)) (sym (or_false talk.closed))

pub heard_after : (told : Option Talk) (sent came : List ℕ) (closed : Bool)
    → option_map (hears came closed) (option_map (with_sent sent) told) ≡ option_map (goes_on (record { sent = sent; came = came; closed = closed })) told
heard_after None sent came closed = refl
heard_after (Some talk) sent came closed = refl

pub heard_more : (told : Option Talk) (before after : List ℕ) (closed : Bool)
    → option_map (hears after closed) (option_map (hears before false) told) ≡ option_map (hears (before ++ after) closed) told
heard_more None before after closed = refl
heard_more (Some talk) before after closed =
    same_talk (hears after closed (hears before false talk)) _ _ _ refl (append_assoc talk.came before after) (ap (λ end. end || closed) (or_false talk.closed))

-- ---- waiting

pub fills_more : (a b c : Channel) (before after : List ℕ) (closed : Bool) → Fills before false a b → Fills after closed b c → Fills (before ++ after) closed a c
fills_more a b c before after closed first then = record {
  told = then.told ∙ ap (option_map (hears after closed)) first.told ∙ heard_more a.link.talk before after closed;
  held = then.held ∙ ap (λ held. held ++ after) first.held ∙ append_assoc a.held before after;
}
