use Rattle.term_tokens.specs.Lexed.{lexed}
use Rattle.term_tokens.proofs.TokenFaults.{lexed_right, ok_taken, ok_begins, ok_takes, ok_narrow, ok_free, ok_shorter, ok_whole, err_first}
use Rattle.term_tokens.proofs.lexer.first_token.Goals as goal

pub returns-clause-begins : goal.returns-clause-begins
returns-clause-begins c =
    ok_begins (λ found. (found.0, found.1.now)) c.args.expected c.args.text.now c.token.result
    (ok_taken (λ found. (found.0, found.1.now)) c.args.expected c.args.text.now c.token.result (lexed c.args.expected c.args.text.now) (lexed_right c.args.expected c.args.text.now c.requires) c.token.ensures)

pub returns-clause-taken : goal.returns-clause-taken
returns-clause-taken c =
    ok_takes (λ found. (found.0, found.1.now)) c.args.expected c.args.text.now c.token.result
    (ok_taken (λ found. (found.0, found.1.now)) c.args.expected c.args.text.now c.token.result (lexed c.args.expected c.args.text.now) (lexed_right c.args.expected c.args.text.now c.requires) c.token.ensures)

pub returns-clause-narrow : goal.returns-clause-narrow
returns-clause-narrow c =
    ok_narrow (λ found. (found.0, found.1.now)) c.args.expected c.args.text.now c.token.result
    (ok_taken (λ found. (found.0, found.1.now)) c.args.expected c.args.text.now c.token.result (lexed c.args.expected c.args.text.now) (lexed_right c.args.expected c.args.text.now c.requires) c.token.ensures)

pub returns-clause-free : goal.returns-clause-free
returns-clause-free c =
    ok_free (λ found. (found.0, found.1.now)) c.args.expected c.args.text.now c.token.result
    (ok_taken (λ found. (found.0, found.1.now)) c.args.expected c.args.text.now c.token.result (lexed c.args.expected c.args.text.now) (lexed_right c.args.expected c.args.text.now c.requires) c.token.ensures)

pub returns-clause-shorter : goal.returns-clause-shorter
returns-clause-shorter c =
    ok_shorter (λ found. (found.0, found.1.now)) c.args.expected c.args.text.now c.token.result
    (ok_taken (λ found. (found.0, found.1.now)) c.args.expected c.args.text.now c.token.result (lexed c.args.expected c.args.text.now) (lexed_right c.args.expected c.args.text.now c.requires) c.token.ensures)

pub returns-clause-refused : goal.returns-clause-refused
returns-clause-refused c = err_first (λ found. (found.0, found.1.now)) c.args.expected c.args.text.now c.token.result (lexed c.args.expected c.args.text.now) (lexed_right c.args.expected c.args.text.now c.requires) c.token.ensures

pub returns-clause-whole : goal.returns-clause-whole
returns-clause-whole c =
    ok_whole (λ found. (found.0, found.1.now)) c.args.expected c.args.text.now c.token.result
    (ok_taken (λ found. (found.0, found.1.now)) c.args.expected c.args.text.now c.token.result (lexed c.args.expected c.args.text.now) (lexed_right c.args.expected c.args.text.now c.requires) c.token.ensures)
