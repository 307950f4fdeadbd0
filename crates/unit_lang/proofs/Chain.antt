-- An expression as a first factor and what follows it at its level.
use Rattle.std.proofs.Common.{◌≡◌, ℕ, List, [], ◌∷◌, ◌++◌, refl, sym, ap, ◌∙◌, subst, append_assoc}
use Rattle.std.proofs.lemmas.List.{append-nil}
use Rattle.unit_lang.specs.declared.token.Token.{Token}
use Rattle.unit_lang.specs.declared.token.Token.TheVariants.{Plus, Minus, Star}
use Rattle.unit_lang.specs.declared.unit.Expression.{Expression}
use Rattle.unit_lang.specs.declared.unit.Expression.TheVariants.{Add, Subtract, Multiply}
use Rattle.unit_lang.specs.declared.level.Sum.{Sum}
use Rattle.unit_lang.specs.declared.level.Sum.TheVariants as sum
use Rattle.unit_lang.specs.Grammar.{IsExpression, term, add, subtract, IsTerm, factor, multiply, IsFactor}
use Rattle.unit_lang.specs.Machine.{joined}

-- what follows a term, after a sum, makes an expression of them
pub data Chain : ℕ → ℕ → Sum → Expression → List Token → Expression → Type 0 where
  end : {levels most : ℕ} {s : Sum} {t : Expression} → Chain levels most s t [] (joined s t)
  star : {levels most : ℕ} {s : Sum} {t f e : Expression} {word more : List Token} → IsFactor levels most word f → Chain levels most s (Multiply t f) more e → Chain levels most s t (Star ∷ word ++ more) e
  plus : {levels most : ℕ} {s : Sum} {t f e : Expression} {word more : List Token} → IsFactor levels most word f → Chain levels most (sum.Plus (joined s t)) f more e → Chain levels most s t (Plus ∷ word ++ more) e
  minus : {levels most : ℕ} {s : Sum} {t f e : Expression} {word more : List Token} → IsFactor levels most word f → Chain levels most (sum.Minus (joined s t)) f more e → Chain levels most s t (Minus ∷ word ++ more) e

-- what follows a factor in its term
data Stars : ℕ → ℕ → Expression → List Token → Expression → Type 0 where
  none : {levels most : ℕ} {t : Expression} → Stars levels most t [] t
  more : {levels most : ℕ} {t f e : Expression} {word rest : List Token} → IsFactor levels most word f → Stars levels most (Multiply t f) rest e → Stars levels most t (Star ∷ word ++ rest) e

record TermHead (levels most : ℕ) (tokens : List Token) (e : Expression) : Type 0 where
  word : List Token
  rest : List Token
  f : Expression
  reads : IsFactor levels most word f
  stars : Stars levels most f rest e
  split : tokens ≡ word ++ rest

-- an expression's first factor
pub record Head (levels most : ℕ) (tokens : List Token) (e : Expression) : Type 0 where
  pub word : List Token
  pub rest : List Token
  pub f : Expression
  pub reads : IsFactor levels most word f
  pub chain : Chain levels most sum.Nothing f rest e
  pub split : tokens ≡ word ++ rest

stars_push : {levels most : ℕ} {t f e : Expression} {tokens word : List Token} → Stars levels most t tokens e → IsFactor levels most word f → Stars levels most t (tokens ++ Star ∷ word) (Multiply e f)
stars_push {levels} {most} {f = f} {word = word} (none {t = t}) h = subst (λ l. Stars levels most t (Star ∷ l) (Multiply t f)) (append-nil word) (more h none)
stars_push {levels} {most} {f = f} {word = word} (more {t = t} {e = e} {word = w} {rest = rest} g c) h =
    subst (λ l. Stars levels most t (Star ∷ l) (Multiply e f)) (sym (append_assoc w rest (Star ∷ word))) (more g (stars_push c h))

term_head : {levels most : ℕ} {tokens : List Token} {e : Expression} → IsTerm levels most tokens e → TermHead levels most tokens e
term_head (factor {tokens = tokens} {e = e} h) = record { word = tokens; rest = []; f = e; reads = h; stars = none; split = sym (append-nil tokens) }
term_head (multiply {first = first} {second = second} t h) =
    let k = term_head t in
    record { word = k.word; rest = k.rest ++ Star ∷ second; f = k.f; reads = k.reads; stars = stars_push k.stars h; split = ap (λ l. l ++ Star ∷ second) k.split ∙ append_assoc k.word k.rest (Star ∷ second) }

chain_stars : {levels most : ℕ} {t e : Expression} {tokens : List Token} → Stars levels most t tokens e → (s : Sum) → Chain levels most s t tokens (joined s e)
chain_stars none s = end
chain_stars (more g c) s = star g (chain_stars c s)

chain_plus : {levels most : ℕ} {s : Sum} {t e right : Expression} {tokens second : List Token} → Chain levels most s t tokens e → TermHead levels most second right → Chain levels most s t (tokens ++ Plus ∷ second) (Add e right)
chain_plus {levels} {most} {right = right} {second = second} (end {s = s} {t = t}) k =
    subst (λ l. Chain levels most s t (Plus ∷ l) (Add (joined s t) right)) (sym k.split) (plus k.reads (chain_stars k.stars (sum.Plus (joined s t))))
chain_plus {levels} {most} {right = right} {second = second} (star {s = s} {t = t} {e = e} {word = w} {more = rest} g c) k =
    subst (λ l. Chain levels most s t (Star ∷ l) (Add e right)) (sym (append_assoc w rest (Plus ∷ second))) (star g (chain_plus c k))
chain_plus {levels} {most} {right = right} {second = second} (plus {s = s} {t = t} {e = e} {word = w} {more = rest} g c) k =
    subst (λ l. Chain levels most s t (Plus ∷ l) (Add e right)) (sym (append_assoc w rest (Plus ∷ second))) (plus g (chain_plus c k))
chain_plus {levels} {most} {right = right} {second = second} (minus {s = s} {t = t} {e = e} {word = w} {more = rest} g c) k =
    subst (λ l. Chain levels most s t (Minus ∷ l) (Add e right)) (sym (append_assoc w rest (Plus ∷ second))) (minus g (chain_plus c k))

chain_minus : {levels most : ℕ} {s : Sum} {t e right : Expression} {tokens second : List Token} → Chain levels most s t tokens e → TermHead levels most second right → Chain levels most s t (tokens ++ Minus ∷ second) (Subtract e right)
chain_minus {levels} {most} {right = right} {second = second} (end {s = s} {t = t}) k =
    subst (λ l. Chain levels most s t (Minus ∷ l) (Subtract (joined s t) right)) (sym k.split) (minus k.reads (chain_stars k.stars (sum.Minus (joined s t))))
chain_minus {levels} {most} {right = right} {second = second} (star {s = s} {t = t} {e = e} {word = w} {more = rest} g c) k =
    subst (λ l. Chain levels most s t (Star ∷ l) (Subtract e right)) (sym (append_assoc w rest (Minus ∷ second))) (star g (chain_minus c k))
chain_minus {levels} {most} {right = right} {second = second} (plus {s = s} {t = t} {e = e} {word = w} {more = rest} g c) k =
    subst (λ l. Chain levels most s t (Plus ∷ l) (Subtract e right)) (sym (append_assoc w rest (Minus ∷ second))) (plus g (chain_minus c k))
chain_minus {levels} {most} {right = right} {second = second} (minus {s = s} {t = t} {e = e} {word = w} {more = rest} g c) k =
    subst (λ l. Chain levels most s t (Minus ∷ l) (Subtract e right)) (sym (append_assoc w rest (Minus ∷ second))) (minus g (chain_minus c k))

-- an expression is a factor and what follows it
pub expression_head : {levels most : ℕ} {tokens : List Token} {e : Expression} → IsExpression levels most tokens e → Head levels most tokens e
expression_head (term h) =
    let k = term_head h in
    record { word = k.word; rest = k.rest; f = k.f; reads = k.reads; chain = chain_stars k.stars sum.Nothing; split = k.split }
expression_head (add {first = first} {second = second} a b) =
    let k = expression_head a in
    record { word = k.word; rest = k.rest ++ Plus ∷ second; f = k.f; reads = k.reads; chain = chain_plus k.chain (term_head b); split = ap (λ l. l ++ Plus ∷ second) k.split ∙ append_assoc k.word k.rest (Plus ∷ second) }
expression_head (subtract {first = first} {second = second} a b) =
    let k = expression_head a in
    record { word = k.word; rest = k.rest ++ Minus ∷ second; f = k.f; reads = k.reads; chain = chain_minus k.chain (term_head b); split = ap (λ l. l ++ Minus ∷ second) k.split ∙ append_assoc k.word k.rest (Minus ∷ second) }

-- the tokens of a sum, with the sign after it
abbrev SumOf : ℕ → ℕ → Sum → List Token → Type 0
SumOf levels most sum.Nothing tokens = tokens ≡ []
SumOf levels most (sum.Plus left) tokens = (first : List Token) × IsExpression levels most first left × (tokens ≡ first ++ Plus ∷ [])
SumOf levels most (sum.Minus left) tokens = (first : List Token) × IsExpression levels most first left × (tokens ≡ first ++ Minus ∷ [])

joined_back : {levels most : ℕ} (s : Sum) {t : Expression} (tokens : List Token) {word : List Token} → SumOf levels most s tokens → IsTerm levels most word t → IsExpression levels most (tokens ++ word) (joined s t)
joined_back {levels} {most} sum.Nothing {t} tokens {word} p h = subst (λ l. IsExpression levels most (l ++ word) t) (sym p) (term h)
joined_back {levels} {most} (sum.Plus left) {t} tokens {word} p h =
    subst (λ l. IsExpression levels most l (Add left t)) (sym (append_assoc p.0 (Plus ∷ []) word) ∙ ap (λ l. l ++ word) (sym p.2)) (add p.1 h)
joined_back {levels} {most} (sum.Minus left) {t} tokens {word} p h =
    subst (λ l. IsExpression levels most l (Subtract left t)) (sym (append_assoc p.0 (Minus ∷ []) word) ∙ ap (λ l. l ++ word) (sym p.2)) (subtract p.1 h)

shift : (before word w rest : List Token) (sign : Token) → before ++ ((word ++ sign ∷ w) ++ rest) ≡ before ++ (word ++ (sign ∷ (w ++ rest)))
shift before word w rest sign = ap (λ l. before ++ l) (append_assoc word (sign ∷ w) rest)

shift_sum : (before word w rest : List Token) (sign : Token) → ((before ++ word) ++ sign ∷ []) ++ (w ++ rest) ≡ before ++ (word ++ (sign ∷ (w ++ rest)))
shift_sum before word w rest sign = append_assoc (before ++ word) (sign ∷ []) (w ++ rest) ∙ append_assoc before word (sign ∷ (w ++ rest))

chain_back : {levels most : ℕ} {s : Sum} {t e : Expression} {tokens : List Token} → Chain levels most s t tokens e → (before word : List Token) → SumOf levels most s before → IsTerm levels most word t → IsExpression levels most (before ++ (word ++ tokens)) e
chain_back {levels} {most} (end {s = s} {t = t}) before word p h = subst (λ l. IsExpression levels most (before ++ l) (joined s t)) (sym (append-nil word)) (joined_back s before p h)
chain_back {levels} {most} (star {s = s} {t = t} {e = e} {word = w} {more = rest} g c) before word p h =
    subst (λ l. IsExpression levels most l e) (shift before word w rest Star) (chain_back c before (word ++ Star ∷ w) p (multiply h g))
chain_back {levels} {most} (plus {s = s} {t = t} {e = e} {word = w} {more = rest} g c) before word p h =
    subst (λ l. IsExpression levels most l e) (shift_sum before word w rest Plus) (chain_back c ((before ++ word) ++ Plus ∷ []) w (before ++ word, joined_back s before p h, refl) (factor g))
chain_back {levels} {most} (minus {s = s} {t = t} {e = e} {word = w} {more = rest} g c) before word p h =
    subst (λ l. IsExpression levels most l e) (shift_sum before word w rest Minus) (chain_back c ((before ++ word) ++ Minus ∷ []) w (before ++ word, joined_back s before p h, refl) (factor g))

-- and a factor with what follows it is an expression
pub head_expression : {levels most : ℕ} {f e : Expression} {word rest : List Token} → IsFactor levels most word f → Chain levels most sum.Nothing f rest e → IsExpression levels most (word ++ rest) e
head_expression {word = word} h c = chain_back c [] word refl (factor h)
