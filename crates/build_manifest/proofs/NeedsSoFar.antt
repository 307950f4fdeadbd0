-- Needs read one after another.
use Rattle.std.proofs.Common.{◌≡◌, ℕ, ◌<◌, List, [], ◌∷◌, ◌++◌, length, sym, ap, ◌∙◌, arith, append_assoc}
use Rattle.std.specs.Prelude.{flat_map}
use Rattle.reading.specs.Field.{FitInTurn, ListFits, Stops}
use Rattle.reading.proofs.Repeats.{fit_one_more, flat_map_one_more, list_stops}
use Rattle.build_manifest.specs.Mark.{Need, NeedFits, limit}
use Rattle.build_manifest.specs.Text.{need_text}
use Rattle.build_manifest.proofs.FreeNames.{needs_go_on}
use Rattle.build_manifest.proofs.Parts.{need_tells}

pub needs_stop : (needs : List Need) (count at : ℕ) (text left : List ℕ) → count < limit → length needs < count → FitInTurn NeedFits [] needs
    → text ≡ flat_map need_text needs ++ left → Stops need_text (NeedFits needs) left at → Stops (flat_map need_text) (ListFits NeedFits count []) text at
needs_stop needs count at text left small fewer fits cut s =
    list_stops need_text NeedFits need_tells count (needs_go_on count small) [] needs count (omega arith) tt fits text left at fewer cut s

pub one_need_more : (needs : List Need) (need : Need) (text left after : List ℕ) → FitInTurn NeedFits [] needs → NeedFits needs need
    → text ≡ flat_map need_text needs ++ left → left ≡ need_text need ++ after
    → FitInTurn NeedFits [] (needs ++ need ∷ []) × (text ≡ flat_map need_text (needs ++ need ∷ []) ++ after)
one_need_more needs need text left after fits next cut more = (
  fit_one_more NeedFits [] needs need fits next,
  cut ∙ ap (λ t. flat_map need_text needs ++ t) more ∙ sym (append_assoc (flat_map need_text needs) (need_text need) after)
      ∙ ap (λ t. t ++ after) (sym (flat_map_one_more need_text needs need)),
)
