-- The text of a lock spells its term.
use Rattle.std.proofs.Common.{◌≡◌, ℕ, ◌<◌, Bool, true, false, ◌&&◌, List, [], ◌∷◌, ◌++◌, map, flat_map, Some, codes, refl, sym, subst, append_assoc, arith}
use Rattle.std.specs.Prelude.{IsTrue}
use Rattle.std.specs.List.{AllByRecursion, list_all}
use Rattle.std.specs.Str.{IsUtf8, is_utf8}
use Rattle.std.proofs.lemmas.Bool.{and_parts}
use Rattle.std.proofs.lemmas.Bool.Decides.{nat_tests}
use Rattle.std.proofs.lemmas.Str.{IsUtf8-nil, IsUtf8-append, IsUtf8-from_is_utf8}
use Rattle.mx_base.specs.AppName.{fits_at, is_app_name}
use Rattle.term_tokens.specs.declared.bracket.Bracket.TheVariants as bracket
use Rattle.term_tokens.specs.declared.token.Closing.TheVariants.{Curly}
use Rattle.term_tokens.specs.declared.token.Token.{Token}
use Rattle.term_tokens.specs.declared.token.Token.TheVariants as token
use Rattle.term_tokens.specs.Strings.{is_literal, Quoted}
use Rattle.term_tokens.specs.Tokens.{AreTokens, Begins, Blanks}
use Rattle.term_print.specs.Grammar.{enclosed, IsTerm, Inside, Follows}
use Rattle.term_print.specs.Printable.{AreBytes, IsPrintable, ArePrintable}
use Rattle.term_print.specs.Printed.{printed}
use Rattle.term_print.specs.Spells.{Spells}
use Rattle.term_print.proofs.PrintedBytes.{AreLow, utf8_low, utf8_bytes}
use Rattle.term_print.proofs.PrintedTerms.{Placed, printed_placed}
use Rattle.term_print.proofs.PrintedTokens.{Leads, leads-append}
use Rattle.term_values.specs.declared.term.Term.{Term}
use Rattle.term_values.specs.Views.{Pair}
use Rattle.term_values.specs.declared.term.Term.TheVariants.{Atom, Str, Map}
use Rattle.mix_lock.specs.declared.entry.Entry.{Entry}
use Rattle.mix_lock.specs.declared.entry.Entry.TheVariants.{Hex, Other}
use Rattle.mix_lock.specs.declared.entry.HexEntry.{HexEntry}
use Rattle.mix_lock.specs.declared.entry.LockDep.{LockDep}
use Rattle.mix_lock.specs.Lock.{AppEntry, IsLockDep, IsHexEntry, IsLockEntry, IsAppEntry}
use Rattle.mix_lock.specs.Text.{truth_term, keyword, options_term, dep_term, hex_term, entry_term, key_text, line_text, written, pair_of, lock_term, IsEntryPrintable}
use Rattle.mix_lock.proofs.AsciiLemmas.{requirement_bytes, digit_bytes}

-- ---- names

plain_byte : (at byte : ℕ) → fits_at at byte ≡ true → byte < 128
plain_byte at byte e = grind (arith, nat_tests)

low_rest : (bytes : List ℕ) → list_all (fits_at 1) bytes ≡ true → AreLow bytes
low_rest [] all = tt
low_rest (byte ∷ bytes) all =
    let parts = and_parts (fits_at 1 byte) (list_all (fits_at 1) bytes) all in
    (plain_byte 1 byte parts.0, low_rest bytes parts.1)

low_name : (name : List ℕ) → IsTrue (is_app_name name) → AreLow name
low_name [] is = tt
low_name (byte ∷ bytes) is =
    let parts = and_parts (fits_at 0 byte && list_all (fits_at 1) bytes) _ is in
    let both = and_parts (fits_at 0 byte) (list_all (fits_at 1) bytes) parts.0 in
    (plain_byte 0 byte both.0, low_rest bytes both.1)

name_utf8 : (name : List ℕ) → IsTrue (is_app_name name) → IsUtf8 name
name_utf8 name is = utf8_low name (low_name name is)

no_escape : (at byte : ℕ) (text : List ℕ) → fits_at at byte ≡ true → is_literal byte text ≡ true
no_escape at byte [] e = grind (arith, nat_tests)
no_escape at byte (next ∷ text) e = grind (arith, nat_tests)

quoted_rest : (bytes : List ℕ) → list_all (fits_at 1) bytes ≡ true → Quoted bytes bytes
quoted_rest [] all = Quoted.end
quoted_rest (byte ∷ bytes) all =
    let parts = and_parts (fits_at 1 byte) (list_all (fits_at 1) bytes) all in
    Quoted.literal (no_escape 1 byte bytes parts.0) (quoted_rest bytes parts.1)

-- a name stands for itself between quotes
quoted_name : (name : List ℕ) → IsTrue (is_app_name name) → Quoted name name
quoted_name [] is = Quoted.end
quoted_name (byte ∷ bytes) is =
    let parts = and_parts (fits_at 0 byte && list_all (fits_at 1) bytes) _ is in
    let both = and_parts (fits_at 0 byte) (list_all (fits_at 1) bytes) parts.0 in
    Quoted.literal (no_escape 0 byte bytes both.0) (quoted_rest bytes both.1)

-- ---- what is written can be printed

one : {t : Term} {ts : List Term} → IsPrintable t → ArePrintable ts → ArePrintable (t ∷ ts)
one p ps = ArePrintable.more p ps

text_printable : (text : List ℕ) → AreLow text → IsPrintable (Atom text)
text_printable text low = IsPrintable.atom (utf8_low text low)

hexpm_bytes : AreBytes (codes "hexpm")
hexpm_bytes = (omega arith, (omega arith, (omega arith, (omega arith, (omega arith, tt)))))

truth_printable : (b : Bool) → IsPrintable (truth_term b)
truth_printable true = text_printable (codes "true") (omega arith, (omega arith, (omega arith, (omega arith, tt))))
truth_printable false = text_printable (codes "false") (omega arith, (omega arith, (omega arith, (omega arith, (omega arith, tt)))))

keyword_printable : (name : List ℕ) (value : Term) → AreLow name → IsPrintable value → IsPrintable (keyword name value)
keyword_printable name value low is = IsPrintable.tuple (one (text_printable name low) (one is ArePrintable.none))

dep_printable : (d : LockDep) → IsLockDep d → IsPrintable (dep_term d)
unfolding dep_term
dep_printable d is =
    let hex : AreLow (codes "hex") = (omega arith, (omega arith, (omega arith, tt))) in
    let repo : AreLow (codes "repo") = (omega arith, (omega arith, (omega arith, (omega arith, tt)))) in
    let optional : AreLow (codes "optional") =
    (omega arith, (omega arith, (omega arith, (omega arith, (omega arith, (omega arith, (omega arith, (omega arith, tt)))))))) in
    let options : IsPrintable (options_term d) = IsPrintable.list
    (one (keyword_printable (codes "hex") (Atom d.package) hex (IsPrintable.atom (name_utf8 d.package is.package)))
    (one (keyword_printable (codes "repo") (Str (codes "hexpm")) repo (IsPrintable.string hexpm_bytes))
    (one (keyword_printable (codes "optional") (truth_term d.optional) optional (truth_printable d.optional)) ArePrintable.none))) in
    IsPrintable.tuple (one (IsPrintable.atom (name_utf8 d.app is.app))
    (one (IsPrintable.string (requirement_bytes d.requirement is.requirement)) (one options ArePrintable.none)))

deps_printable : (deps : List LockDep) → AllByRecursion IsLockDep deps → ArePrintable (map dep_term deps)
deps_printable [] all = ArePrintable.none
deps_printable (d ∷ deps) all = one (dep_printable d all.0) (deps_printable deps all.1)

names_printable : (names : List (List ℕ)) → AllByRecursion (λ n. IsTrue (is_app_name n)) names → ArePrintable (map Atom names)
names_printable [] all = ArePrintable.none
names_printable (n ∷ names) all = one (IsPrintable.atom (name_utf8 n all.0)) (names_printable names all.1)

version_bytes : (version : List ℕ) → is_utf8 version ≡ true → AreBytes version
version_bytes version e = utf8_bytes version (IsUtf8-from_is_utf8 version e)

hex_printable : (e : HexEntry) → IsHexEntry e → IsPrintable (hex_term e)
hex_printable e is =
    let tag : AreLow (codes "hex") = (omega arith, (omega arith, (omega arith, tt))) in
    IsPrintable.tuple
    (one (text_printable (codes "hex") tag)
    (one (IsPrintable.atom (name_utf8 e.name is.name))
    (one (IsPrintable.string (version_bytes e.version (and_parts (is_utf8 e.version) _ is.version).0))
    (one (IsPrintable.string (digit_bytes e.inner))
    (one (IsPrintable.list (names_printable e.managers is.managers))
    (one (IsPrintable.list (deps_printable e.deps is.deps))
    (one (IsPrintable.string (subst AreBytes (sym is.repo) hexpm_bytes))
    (one (IsPrintable.string (digit_bytes e.outer)) ArePrintable.none))))))))

entry_printable : (entry : AppEntry) → IsAppEntry entry → IsEntryPrintable entry.1 → IsPrintable (entry_term entry.1)
entry_printable entry is kept = at entry.1 is.entry kept
  where
    at : (e : Entry) → IsLockEntry e → IsEntryPrintable e → IsPrintable (entry_term e)
    at (Hex e) is kept = hex_printable e is
    at (Other t) is kept = kept

-- ---- lines

-- what stands from the end of a line on
abbrev after : List AppEntry → List ℕ
after entries = 10 ∷ flat_map line_text entries ++ 125 ∷ 10 ∷ []

line_split : (entry : AppEntry) (entries : List AppEntry)
    → after (entry ∷ entries) ≡ 10 ∷ 32 ∷ 32 ∷ 34 ∷ entry.0 ++ 34 ∷ 58 ∷ 32 ∷ (printed (entry_term entry.1) ++ 44 ∷ after entries)
line_split entry entries = simp append_assoc

-- the tokens of lines
record Lined (entries : List AppEntry) : Type 0 where
  tokens : List Token
  grammar : Inside tokens [] [] (map pair_of entries)
  leads : Leads tokens (after entries) (10 ∷ 125 ∷ 10 ∷ [])
  utf8 : IsUtf8 (flat_map line_text entries)

key_utf8 : (app : List ℕ) → IsTrue (is_app_name app) → IsUtf8 (key_text app)
key_utf8 app is =
    IsUtf8-append (32 ∷ 32 ∷ 34 ∷ app) (34 ∷ 58 ∷ 32 ∷ []) (utf8_low (32 ∷ 32 ∷ 34 ∷ app) (omega arith, (omega arith, (omega arith, low_name app is))))
    (utf8_low (34 ∷ 58 ∷ 32 ∷ []) (omega arith, (omega arith, (omega arith, tt))))

line_utf8 : (entry : AppEntry) → IsTrue (is_app_name entry.0) → IsUtf8 (printed (entry_term entry.1)) → IsUtf8 (line_text entry)
line_utf8 entry is text =
    IsUtf8-append (key_text entry.0 ++ printed (entry_term entry.1)) (44 ∷ 10 ∷ [])
    (IsUtf8-append (key_text entry.0) (printed (entry_term entry.1)) (key_utf8 entry.0 is) text)
    (utf8_low (44 ∷ 10 ∷ []) (omega arith, (omega arith, tt)))

with_line : (entry : AppEntry) (entries : List AppEntry) → IsTrue (is_app_name entry.0) → Placed (entry_term entry.1) → Lined entries → Lined (entry ∷ entries)
with_line entry entries is placed others =
    let app = entry.0 in
    let tokens = token.Key app ∷ (placed.tokens ++ (token.Comma ∷ others.tokens)) in
    let rest = printed (entry_term entry.1) ++ 44 ∷ after entries in
    let blanks : Blanks (10 ∷ 32 ∷ 32 ∷ 34 ∷ app ++ 34 ∷ 58 ∷ 32 ∷ rest) (34 ∷ app ++ 34 ∷ 58 ∷ 32 ∷ rest) =
    Blanks.blank refl (Blanks.blank refl (Blanks.blank refl Blanks.none)) in
    let begins : Begins (34 ∷ app ++ 34 ∷ 58 ∷ 32 ∷ rest) (token.Key app) rest =
    Begins.quoted_key {inside = app} 32 (quoted_name app is) (name_utf8 app is) refl refl in
    record {
      tokens = tokens;
      grammar = Inside.keyword placed.grammar (Follows.comma others.grammar);
      leads = subst (λ (w : List ℕ). Leads tokens w (10 ∷ 125 ∷ 10 ∷ [])) (sym (line_split entry entries))
          (Leads.next blanks begins (leads-append (placed.leads (44 ∷ after entries) refl) (Leads.next Blanks.none (Begins.comma refl) others.leads)));
      utf8 = IsUtf8-append (line_text entry) (flat_map line_text entries) (line_utf8 entry is placed.utf8) others.utf8;
    }

lined : (entries : List AppEntry) → AllByRecursion IsAppEntry entries → AllByRecursion (λ entry. IsEntryPrintable entry.1) entries → Lined entries
lined [] all kept = record { tokens = []; grammar = Inside.nothing; leads = Leads.done; utf8 = IsUtf8-nil }
lined (entry ∷ entries) all kept =
    with_line entry entries all.0.app (printed_placed (entry_term entry.1) (entry_printable entry all.0 kept.0)) (lined entries all.1 kept.1)

-- ---- the whole

map_enclosed : (pairs : List Pair) → enclosed bracket.Map [] [] pairs ≡ Some (Map pairs)
map_enclosed [] = refl
map_enclosed (p ∷ pairs) = refl

to_tokens : {tokens : List Token} {text rest : List ℕ} → Leads tokens text rest → Blanks rest [] → AreTokens tokens text
to_tokens Leads.done blanks = blanks
to_tokens (Leads.next {start = start} {mid = mid} before begins others) blanks = (start, mid, before, begins, to_tokens others blanks)

pub written_spells : (entries : List AppEntry) → AllByRecursion IsAppEntry entries
    → AllByRecursion (λ entry. IsEntryPrintable entry.1) entries → Spells (written entries) (lock_term entries)
written_spells entries all kept =
    let inside = lined entries all kept in
    let tokens = token.Open bracket.Map ∷ (inside.tokens ++ token.Close Curly ∷ []) in
    let end : Leads (token.Close Curly ∷ []) (10 ∷ 125 ∷ 10 ∷ []) (10 ∷ []) = Leads.next (Blanks.blank refl Blanks.none) (Begins.closes refl) Leads.done in
    let leads : Leads tokens (written entries) (10 ∷ []) = Leads.next Blanks.none (Begins.opens refl) (leads-append inside.leads end) in
    record {
      utf8 = IsUtf8-append (37 ∷ 123 ∷ 10 ∷ flat_map line_text entries) (125 ∷ 10 ∷ [])
          (IsUtf8-append (37 ∷ 123 ∷ 10 ∷ []) (flat_map line_text entries)
          (utf8_low (37 ∷ 123 ∷ 10 ∷ []) (omega arith, (omega arith, (omega arith, tt)))) inside.utf8)
          (utf8_low (125 ∷ 10 ∷ []) (omega arith, (omega arith, tt)));
      tokens = tokens;
      spelled = to_tokens leads (Blanks.blank refl Blanks.none);
      grammar = IsTerm.brackets inside.grammar (map_enclosed (map pair_of entries));
    }
