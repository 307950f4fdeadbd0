-- No text both spells a unit and has a first fault.
use Rattle.std.proofs.Common.{◌≡◌, ℕ, ◌<◌, ◌≤◌, true, false, List, [], ◌∷◌, ◌++◌, Option, Some, None, length, codes, refl, sym, ap, ◌∙◌, subst, arith, append_assoc}
use Rattle.std.specs.Char.{is_ascii_digit}
use Rattle.std.specs.List.{list_all}
use Rattle.std.specs.Str.Parse.{digits_value}
use Rattle.std.proofs.lemmas.Bool.{true≢false, false≢true}
use Rattle.unit_lang.specs.declared.error.UnitCause.{UnitCause}
use Rattle.unit_lang.specs.declared.token.Token.{Token}
use Rattle.unit_lang.specs.declared.token.Token.TheVariants.{Word}
use Rattle.unit_lang.specs.declared.unit.Expression.{Expression}
use Rattle.unit_lang.specs.declared.unit.Line.{Line}
use Rattle.unit_lang.specs.declared.unit.Statement.{Statement}
use Rattle.unit_lang.specs.declared.unit.Unit.{Unit as UnitFile}
use Rattle.unit_lang.specs.declared.state.State.{State}
use Rattle.unit_lang.specs.declared.state.State.TheVariants as state
use Rattle.unit_lang.specs.Faults.{IsTooDeep, IsTooBig, LineFault, HeadingFault, BodyFault, FileFault, FirstFault, IsUnitless}
use Rattle.unit_lang.specs.Grammar.{IsFactor, number, name, reference, parentheses, negate, IsStatement, uses, lets, exports}
use Rattle.unit_lang.specs.Lines.{IsBlankLine, Names, Says, warn, tokens, greatest}
use Rattle.unit_lang.specs.Machine.{step}
use Rattle.unit_lang.specs.Names.{are_digits}
use Rattle.unit_lang.specs.Spells.{Spells, Makes, Body, longest_line, longest_file}
use Rattle.unit_lang.specs.Tokens.{without_comment}
use Rattle.unit_lang.proofs.LineLemmas.{no_deep, no_great, dot_no_digits, digits_all}
use Rattle.unit_lang.proofs.Reached.{NoMore, reached_first}
use Rattle.unit_lang.proofs.Meaning.{Wants, WantsNext}
use Rattle.unit_lang.proofs.OneLemmas.{blank_says_nothing, blank_names_nothing}
use Rattle.unit_lang.proofs.StepForth.{step_forth}
use Rattle.unit_lang.proofs.TokenLemmas.{tokens_go_on}
use Rattle.unit_lang.proofs.WarnLemmas.{blank_line_is}
use Rattle.unit_lang.proofs.WordLemmas.{name_no_digits}

pub not_both : (few many : ℕ) → few ≤ many → many < few → ⊥
not_both few many le lt = omega arith

-- digits are no other word of a statement

name_not_digits : (bytes digits : List ℕ) → ◌≡◌ {A = Token} (Word digits) (Word bytes) → (are_digits bytes ≡ false) → are_digits digits ≡ true → ⊥
name_not_digits bytes digits e n d =
    let same : digits ≡ bytes = cc in
    true≢false (sym d ∙ ap are_digits same ∙ n)

dotted_not_digits : (first second digits : List ℕ) → digits ≡ first ++ 46 ∷ second → are_digits digits ≡ true → ⊥
dotted_not_digits first second digits e d = true≢false (sym (digits_all digits d) ∙ ap (list_all is_ascii_digit) e ∙ dot_no_digits first second)

start_fits : {levels most : ℕ} {u : Statement} {all : List Token} (digits : List ℕ) (more : List Token) → IsStatement levels most all u → all ≡ Word digits ∷ more → are_digits digits ≡ true → ⊥
start_fits digits more (uses a n) e d = let same : codes "use" ≡ digits = cc in false≢true (ap are_digits same ∙ d)
start_fits digits more (lets n h) e d = let same : codes "let" ≡ digits = cc in false≢true (ap are_digits same ∙ d)
start_fits digits more (exports n) e d = let same : codes "export" ≡ digits = cc in false≢true (ap are_digits same ∙ d)

factor_fits : {inner most : ℕ} {word : List Token} {f : Expression} (rest more : List Token) (digits : List ℕ) → IsFactor inner most word f → Word digits ∷ more ≡ word ++ rest → are_digits digits ≡ true → digits_value 10 digits ≤ most
factor_fits {most = most} rest more digits (number {digits = other} d n) e h = let same : other ≡ digits = cc in subst (λ l. digits_value 10 l ≤ most) same n
factor_fits rest more digits (name {bytes = bytes} n) e h = let same : digits ≡ bytes = cc in absurd (name_not_digits bytes digits (ap Word same) (name_no_digits bytes n) h)
factor_fits rest more digits (reference {unit = unit} {bytes = bytes} n m) e h = let same : digits ≡ unit ++ 46 ∷ bytes = cc in absurd (dotted_not_digits unit bytes digits same h)
factor_fits rest more digits (parentheses g) e h = absurd (cc)
factor_fits rest more digits (negate g) e h = absurd (cc)

-- where digits are wanted, they are no number above the greatest
wants_fits : (levels most : ℕ) (u : Statement) (s : State) (more : List Token) (digits : List ℕ) → are_digits digits ≡ true → Wants levels most u s (Word digits ∷ more) → digits_value 10 digits ≤ most
wants_fits levels most u state.Start more digits d h = absurd (start_fits digits more h refl d)
wants_fits levels most u state.Use more digits d h = let e = h.split in let same : digits ≡ h.app ++ 46 ∷ h.unit = cc in absurd (dotted_not_digits h.app h.unit digits same d)
wants_fits levels most u state.Let more digits d h = let e = h.split in let same : digits ≡ h.name = cc in absurd (name_not_digits h.name digits (ap Word same) (name_no_digits h.name h.is_named) d)
wants_fits levels most u (state.Named title) more digits d h = absurd (let e = h.split in cc)
wants_fits levels most u state.Export more digits d h = let e = h.split in let same : digits ≡ h.name = cc in absurd (name_not_digits h.name digits (ap Word same) (name_no_digits h.name h.is_named) d)
wants_fits levels most u (state.Factor title level holes) more digits d h = let w = h.wanted in factor_fits w.rest more digits w.reads w.split d
wants_fits levels most u (state.Operator title level f holes) more digits d h = let k = step_forth levels most u (state.Operator title level f holes) (Word digits) more h in absurd k.wants
wants_fits levels most u (state.Done s) more digits d h = absurd (let e = h.0 in cc)

next_fits : (levels most : ℕ) (u : Statement) (o : Option State) (all : List Token) (total : ℕ) → WantsNext levels most u o all → ((next : State) → Wants levels most u next all → total ≤ most) → total ≤ most
next_fits levels most u None all total w ih = absurd w
next_fits levels most u (Some next) all total w ih = ih next w

-- and so everywhere in a statement
run_fits : (levels most : ℕ) (u : Statement) (s : State) (front more : List Token) (digits : List ℕ) → are_digits digits ≡ true → Wants levels most u s (front ++ Word digits ∷ more) → digits_value 10 digits ≤ most
run_fits levels most u s [] more digits d w = wants_fits levels most u s more digits d w
run_fits levels most u s (t ∷ front) more digits d w =
    let k = step_forth levels most u s t (front ++ Word digits ∷ more) w in
    next_fits levels most k.v (step s t) (front ++ Word digits ∷ more) (digits_value 10 digits) k.wants (λ next h. run_fits levels most k.v next front more digits d h)

-- a line that says something has no fault

says_no_deep : (line : List ℕ) (s : Statement) → Says line s → IsTooDeep line → ⊥
says_no_deep line s (warn w) d = d.fronts.plain (w.rest, w.starts)
says_no_deep line s (tokens {tokens = all} t h) d =
    let k = tokens_go_on (without_comment line) d.fronts.rest d.front all d.fronts.leads t.cut in
    d.deep greatest k.more s (subst (λ l. IsStatement 64 greatest l s) k.split h)

says_no_great : (line : List ℕ) (s : Statement) → Says line s → IsTooBig line → ⊥
says_no_great line s (warn w) b = b.fronts.plain (w.rest, w.starts)
says_no_great line s (tokens {tokens = all} t h) b =
    let k = tokens_go_on (without_comment line) b.fronts.rest (b.front ++ Word b.digits ∷ []) all b.fronts.leads t.cut in
    let whole : IsStatement 64 greatest (b.front ++ Word b.digits ∷ k.more) s = subst (λ l. IsStatement 64 greatest l s) (k.split ∙ append_assoc b.front (Word b.digits ∷ []) k.more) h in
    not_both (digits_value 10 b.digits) greatest (run_fits 64 greatest s state.Start b.front k.more b.digits b.number whole) b.great

pub line_says_apart : {line : List ℕ} {cause : UnitCause} (s : Statement) → LineFault line cause → length line ≤ longest_line → Says line s → ⊥
line_says_apart s (LineFault.long {line = line} h) le p = not_both (length line) longest_line le h
line_says_apart s (LineFault.deep {line = line} l d) le p = says_no_deep line s p d
line_says_apart s (LineFault.great {line = line} l n b) le p = says_no_great line s p b
line_says_apart s (LineFault.bad l n m solid none) le p = none s p

-- nor has a blank one

nothing_found : (s : State) → NoMore s []
nothing_found s tok after found = absurd (let both : None ≡ Some (tok, after) = found in cc)

pub line_blank_apart : {line : List ℕ} {cause : UnitCause} → LineFault line cause → length line ≤ longest_line → IsBlankLine line → ⊥
line_blank_apart (LineFault.long {line = line} h) le p = not_both (length line) longest_line le h
line_blank_apart (LineFault.deep {line = line} l d) le p = no_deep line state.Start false [] (reached_first (without_comment line) [] (blank_line_is line p)) (nothing_found state.Start) d
line_blank_apart (LineFault.great {line = line} l n b) le p = no_great line state.Start [] (reached_first (without_comment line) [] (blank_line_is line p)) (nothing_found state.Start) b
line_blank_apart (LineFault.bad l n m solid none) le p = solid p

-- lines

body_apart : {number at : ℕ} {lines : List (List ℕ)} {said : List Line} {cause : UnitCause} → Body number lines said → BodyFault number lines at cause → ⊥
body_apart Body.end f = elim f [ ]
body_apart (Body.blank le p h) (BodyFault.here f) = line_blank_apart f le p
body_apart (Body.blank le p h) (BodyFault.blank lf q g) = body_apart h g
body_apart (Body.blank {line = line} le p h) (BodyFault.says {s = t} lf q g) = blank_says_nothing line t p q
body_apart (Body.says {s = s} le p h) (BodyFault.here f) = line_says_apart s f le p
body_apart (Body.says {line = line} {s = s} le p h) (BodyFault.blank lf q g) = blank_says_nothing line s q p
body_apart (Body.says le p h) (BodyFault.says lf q g) = body_apart h g

pub heading_blank_apart : {line : List ℕ} {cause : UnitCause} → HeadingFault line cause → length line ≤ longest_line → IsBlankLine line → ⊥
heading_blank_apart (HeadingFault.long {line = line} h) le p = not_both (length line) longest_line le h
heading_blank_apart (HeadingFault.none l solid nameless) le p = solid p

pub heading_names_apart : {line : List ℕ} {cause : UnitCause} (title : List ℕ) → HeadingFault line cause → length line ≤ longest_line → Names line title → ⊥
heading_names_apart title (HeadingFault.long {line = line} h) le p = not_both (length line) longest_line le h
heading_names_apart title (HeadingFault.none l solid nameless) le p = nameless title p

file_apart : {number at : ℕ} {lines : List (List ℕ)} {u : UnitFile} {cause : UnitCause} → Makes number lines u → FileFault number lines at cause → ⊥
file_apart (Makes.blank le p h) (FileFault.here f) = heading_blank_apart f le p
file_apart (Makes.blank le p h) (FileFault.blank lf q g) = file_apart h g
file_apart (Makes.blank {line = line} le p h) (FileFault.heading title lf q g) = blank_names_nothing line title p q
file_apart (Makes.heading {name = title} le p h) (FileFault.here f) = heading_names_apart title f le p
file_apart (Makes.heading {line = line} {name = title} le p h) (FileFault.blank lf q g) = blank_names_nothing line title q p
file_apart (Makes.heading le p h) (FileFault.heading title lf q g) = body_apart h g

unitless_makes_nothing : {number : ℕ} {lines : List (List ℕ)} {u : UnitFile} → Makes number lines u → IsUnitless lines → ⊥
unitless_makes_nothing (Makes.blank le p h) none = unitless_makes_nothing h none.1
unitless_makes_nothing (Makes.heading {name = title} le p h) none = none.0 (title, p)

first_apart : {text : List ℕ} {at : ℕ} {cause : UnitCause} (u : UnitFile) → Spells text u → FirstFault text at cause → ⊥
first_apart u s (FirstFault.long {text = text} h) = not_both (length text) longest_file s.short h
first_apart u s (FirstFault.unitless le none f) = unitless_makes_nothing s.makes none
first_apart u s (FirstFault.line le some f) = file_apart s.makes f

-- no text both spells a unit and has a first fault
pub spells_apart : (text : List ℕ) (u : UnitFile) (at : ℕ) (cause : UnitCause) → Spells text u → FirstFault text at cause → ⊥
spells_apart text u at cause s f = first_apart u s f
