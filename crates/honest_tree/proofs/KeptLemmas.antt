-- What is kept of honest folders.
use Rattle.std.proofs.Common.{◌≡◌, inl, inr, ℕ, suc, true, List, [], ◌∷◌, length, map, Some, Contains, refl, sym, ◌∙◌, ap, subst, arith}
use Rattle.std.proofs.Math.Path.{path_j'}
use Rattle.mx_base.specs.declared.file.File.{File}
use Rattle.mx_base.specs.declared.row.FileRow.{FileRow}
use Rattle.mx_base.specs.Listing.{listing_digest, rows_of}
use Rattle.compile_model.specs.declared.outcome.Outcome.{Outcome}
use Rattle.compile_model.specs.Content.{Content, outcome_with}
use Rattle.build_manifest.specs.Description.{need_digests, said_by}
use Rattle.build_manifest.specs.declared.description.Description.{Description}
use Rattle.build_manifest.specs.declared.mark.MarkFormat.TheVariants.{One, Two}
use Rattle.build_manifest.specs.Diagnostics.{diagnostics_of}
use Rattle.build_manifest.specs.Mark.{MarkView, Need}
use Rattle.build_manifest.specs.MarkOf.{mark_in, mark_of, upgraded}
use Rattle.build_manifest.specs.Text.{Spells}
use Rattle.build_manifest.proofs.Whole.{one_mark}
use Rattle.staleness.specs.declared.kept.Kept.{Kept}
use Rattle.staleness.specs.Matching.{Describes, matches}
use Rattle.staleness.proofs.DescribedLemmas.{described}
use Rattle.tree_store.specs.declared.holding.Holding.{Holding}
use Rattle.honest_tree.specs.Given.{Given, NoClash, content, description, outcome_of}
use Rattle.honest_tree.specs.Honest.{IsHonest, IsMadeFrom, IsMarkOf}
use Rattle.honest_tree.specs.KeptOf.{IsKept, kept_with}
use Rattle.honest_tree.proofs.HonestLemmas.{same_bytes}

-- an outcome's rows and digest follow from its files
module _ (status : ℕ) (text : List ℕ) (files : List File) where
  abbrev made_of : (rows : List FileRow) → rows ≡ rows_of files → (digest : List ℕ) → digest ≡ listing_digest rows → Outcome
  made_of rows listed digest digested =
      record { status = status; text = text; files = files; rows = rows; digest = digest; listed = listed; digested = digested }

  by_files : (rows : List FileRow) (listed : rows ≡ rows_of files) → outcome_with status text files ≡ made_of rows listed (listing_digest rows) refl
  by_files rows listed = path_j' (λ (r : List FileRow) e. outcome_with status text files ≡ made_of r e (listing_digest r) refl) refl listed

  by_rows : (rows : List FileRow) (listed : rows ≡ rows_of files) (digest : List ℕ) (digested : digest ≡ listing_digest rows) →
      made_of rows listed (listing_digest rows) refl ≡ made_of rows listed digest digested
  by_rows rows listed digest digested = path_j' (λ (d : List ℕ) e. made_of rows listed (listing_digest rows) refl ≡ made_of rows listed d e) refl digested

pub outcome_again : (outcome : Outcome) → outcome_with outcome.status outcome.text outcome.files ≡ outcome
outcome_again outcome =
    by_files outcome.status outcome.text outcome.files outcome.rows outcome.listed
    ∙ by_rows outcome.status outcome.text outcome.files outcome.rows outcome.listed outcome.digest outcome.digested

pub one_kept : (held : Holding) (one other : Kept) → IsKept held one → IsKept held other → one ≡ other
one_kept held one other a b =
    let bytes : b.bytes ≡ a.bytes = same_bytes b.bytes a.bytes (sym b.marked ∙ a.marked) in
    let mark : one.mark ≡ other.mark = one_mark a.bytes one.mark other.mark a.read (subst (λ (t : List ℕ). Spells t other.mark) bytes b.read) in
    let outcome : one.outcome ≡ other.outcome = a.outcome ∙ ap (λ (m : MarkView). outcome_with 0 m.text held.files) mark ∙ sym b.outcome in
    ap (λ (m : MarkView). record { mark = m; outcome = one.outcome }) mark ∙ ap (λ (o : Outcome). record { mark = other.mark; outcome = o }) outcome

pub some_kept : (held : Holding) (bytes : List ℕ) (mark : MarkView) → held.mark ≡ Some bytes → Spells bytes mark → mark.outputs ≡ rows_of held.files →
    IsKept held (kept_with mark held.files)
some_kept held bytes mark marked read listed = record { bytes = bytes; marked = marked; read = read; listed = listed; outcome = refl }

-- the needs of a mark, from their apps and digests
needs_from : (needs : List Need) (apps : List (List ℕ)) (outcomes : List Outcome) → map (λ need. need.1) needs ≡ apps →
    map (λ need. need.0) needs ≡ map (λ outcome. outcome.digest) outcomes → needs ≡ need_digests apps outcomes
needs_from [] [] outcomes a d = refl
needs_from [] (app ∷ apps) outcomes a d = cc
needs_from (n ∷ ns) [] outcomes a d = cc
needs_from (n ∷ ns) (app ∷ apps) [] a d = cc
needs_from (n ∷ ns) (app ∷ apps) (o ∷ os) a d =
    let own : n.1 ≡ app = cc in
    let digest : n.0 ≡ o.digest = cc in
    let rest : map (λ (need : Need). need.1) ns ≡ apps = cc in
    let others : map (λ (need : Need). need.0) ns ≡ map (λ (outcome : Outcome). outcome.digest) os = cc in
    ap (λ (t : List ℕ). (n.0, t) ∷ ns) own ∙ ap (λ (t : List ℕ). (t, app) ∷ ns) digest
    ∙ ap (λ (more : List Need). (o.digest, app) ∷ more) (needs_from ns apps os rest others)

-- a mark that describes an input says its description
says_description : (mark : MarkView) (given : Given) → Describes mark given.job given.needs → said_by mark ≡ description given
says_description mark given is =
    ap (λ (t : List ℕ). record { options = t; sources = mark.sources; needs = mark.needs }) is.described.options
    ∙ ap (λ (rows : List FileRow). record { options = given.job.options; sources = rows; needs = mark.needs }) is.described.sources
    ∙ ap (λ (needs : List Need). record { options = given.job.options; sources = given.job.rows; needs = needs })
    (needs_from mark.needs given.job.need_apps given.needs is.described.apps is.outputs)

mark_says : (given : Given) (outcome : Outcome) (mark : MarkView) → IsMarkOf given outcome mark →
    (said_by mark ≡ description given) × (mark.text ≡ outcome.text)
mark_says given outcome mark (inl is) = (ap said_by is, ap (λ (m : MarkView). m.text) is)
mark_says given outcome mark (inr is) = (ap said_by is, ap (λ (m : MarkView). m.text) is)

contains_more : (one : Given) (known : List Given) (given : Given) → Contains known given → Contains (one ∷ known) given
contains_more one known given c = (suc c.0, omega (arith, c.1), c.2)

pub kept_outcome : (compile : Content → Outcome) (known : List Given) (held : Holding) (kept : Kept) (given : Given) → IsHonest compile known held →
    IsKept held kept → NoClash (given ∷ known) → length given.needs ≡ length given.job.need_apps → matches kept.mark given.job given.needs ≡ true →
    kept.outcome ≡ outcome_of compile given
kept_outcome compile known held kept given honest is apart each match = at (honest is.bytes kept.mark is.marked is.read)
  where
    at : (made : Given) × Contains known made × IsMadeFrom compile made held kept.mark → kept.outcome ≡ outcome_of compile given
    at (made, among, from) =
        let says = mark_says made (outcome_of compile made) kept.mark from.own in
        let same : description given ≡ description made =
        sym (says_description kept.mark given ((described kept.mark given.job given.needs each).0 match)) ∙ says.0 in
        let one : content given ≡ content made = apart given made (0, omega arith, refl) (contains_more given known made among) same in
        let o = outcome_of compile made in
        is.outcome ∙ ap (λ (t : List ℕ). outcome_with 0 t held.files) says.1 ∙ ap (λ (fs : List File). outcome_with 0 o.text fs) from.files
        ∙ ap (λ (n : ℕ). outcome_with n o.text o.files) (sym from.built) ∙ outcome_again o ∙ ap compile (sym one)

-- the mark of an outcome lists its files
mark_lists : (given : Given) (outcome : Outcome) (mark : MarkView) → IsMarkOf given outcome mark → mark.outputs ≡ rows_of outcome.files
mark_lists given outcome mark (inl is) = ap (λ (m : MarkView). m.outputs) is ∙ outcome.listed
mark_lists given outcome mark (inr is) = ap (λ (m : MarkView). m.outputs) is ∙ outcome.listed

pub honest_kept : (compile : Content → Outcome) (known : List Given) (held : Holding) (bytes : List ℕ) (mark : MarkView) → IsHonest compile known held →
    held.mark ≡ Some bytes → Spells bytes mark → IsKept held (kept_with mark held.files)
honest_kept compile known held bytes mark honest marked read = some_kept held bytes mark marked read (at (honest bytes mark marked read))
  where
    at : (made : Given) × Contains known made × IsMadeFrom compile made held mark → mark.outputs ≡ rows_of held.files
    at (made, among, from) = mark_lists made (outcome_of compile made) mark from.own ∙ ap rows_of (sym from.files)

-- ---- in the second form

-- a mark in the second form is made of what it says, its outputs and its text
abbrev newer_of : Description → List FileRow → List ℕ → MarkView
newer_of said rows text = mark_in (Two (diagnostics_of said.sources text)) said rows text

-- the mark of an honest folder that matches an input is, in the second form, the input's mark; and so it is already where it is in that form
pub kept_mark : (compile : Content → Outcome) (known : List Given) (held : Holding) (bytes : List ℕ) (mark : MarkView) (given : Given) →
    IsHonest compile known held → held.mark ≡ Some bytes → Spells bytes mark → NoClash (given ∷ known) →
    length given.needs ≡ length given.job.need_apps → matches mark given.job given.needs ≡ true →
    (upgraded mark ≡ mark_of given.job given.needs (outcome_of compile given)) ×
    ((mark.format ≡ One → ⊥) → mark ≡ mark_of given.job given.needs (outcome_of compile given))
kept_mark compile known held bytes mark given honest stands reads apart many match = at (honest bytes mark stands reads)
  where
    goal : Type 0
    goal = (upgraded mark ≡ mark_of given.job given.needs (outcome_of compile given)) ×
        ((mark.format ≡ One → ⊥) → mark ≡ mark_of given.job given.needs (outcome_of compile given))

    at : (made : Given) × Contains known made × IsMadeFrom compile made held mark → goal
    at (made, among, from) =
        let o : Outcome = outcome_of compile made in
        let says = mark_says made o mark from.own in
        let said : said_by mark ≡ description given = says_description mark given ((described mark given.job given.needs many).0 match) in
        let same : description given ≡ description made = sym said ∙ says.0 in
        let one : content given ≡ content made = apart given made (0, omega arith, refl) (contains_more given known made among) same in
        let own : o ≡ outcome_of compile given = ap compile (sym one) in
        let by : newer_of (description made) o.rows o.text ≡ newer_of (description given) (outcome_of compile given).rows (outcome_of compile given).text =
        ap (λ (d : Description). newer_of d o.rows o.text) (sym same) ∙ ap (λ (x : Outcome). newer_of (description given) x.rows x.text) own in
        elim from.own [
          | inl older ↦ (ap upgraded older ∙ by, λ new. absurd (new (ap (λ (m : MarkView). m.format) older)))
          | inr newer ↦ (ap upgraded newer ∙ by, λ new. newer ∙ by)
        ]
