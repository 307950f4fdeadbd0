-- Words, a few of them at a time.
use Rattle.std.proofs.Common.{◌≡◌, ℕ, ◌-◌, ◌<◌, ◌≤◌, ◌==◌, Bool, true, false, ◌&&◌, cond, List, [], ◌∷◌, ◌++◌, drop, get_or, take, length, map, Option, Some, None, option_map, bytes_eq, codes, refl, sym, ◌∙◌, ap, append_assoc, arith}
use Rattle.std.proofs.lemmas.List.{length-drop, take_all}
use Rattle.unitc_call.specs.declared.words.Task.{Task}
use Rattle.unitc_call.specs.Words.{are_options, is_output, needs_of, source_folder, task_of, task_with}
use Rattle.mx_base.specs.AppName.{is_app_name}

-- three words, and the others
pub three_words : {X : Type 0} (f : X → List ℕ) (xs : List X) (a b c : X) → 3 ≤ length xs →
    map f xs ≡ f (get_or xs 0 a) ∷ f (get_or xs 1 b) ∷ f (get_or xs 2 c) ∷ map f (drop 3 xs)
three_words f [] a b c long = absurd (omega (arith, long))
three_words f (x ∷ []) a b c long = absurd (omega (arith, long))
three_words f (x ∷ y ∷ []) a b c long = absurd (omega (arith, long))
three_words f (x ∷ y ∷ z ∷ xs) a b c long = refl

-- fewer than three are no needs, but for none
short_words : {X : Type 0} (f : X → List ℕ) (env : List ℕ) (xs : List X) → length xs < 3 → false ≡ (length xs == 0) → needs_of env (map f xs) ≡ None
short_words f env [] short some = absurd (cc)
short_words f env (x ∷ []) short some = refl
short_words f env (x ∷ y ∷ []) short some = refl
short_words f env (x ∷ y ∷ z ∷ xs) short some = absurd (omega (arith, short))

pub none_left : {X : Type 0} (f : X → List ℕ) (env : List ℕ) (all : Option (List (List ℕ))) (before : List (List ℕ)) (rest : List X) →
    all ≡ option_map (λ more. before ++ more) (needs_of env (map f rest)) → length rest < 3 → false ≡ (length rest == 0) → None ≡ all
none_left f env all before rest is short some = sym (is ∙ ap (option_map (λ more. before ++ more)) (short_words f env rest short some))

-- fewer than eight words are no task
pub few_words : {X : Type 0} (f : X → List ℕ) (xs : List X) → length xs < 8 → None ≡ task_of (map f xs)
few_words f [] few = refl
few_words f (a ∷ []) few = refl
few_words f (a ∷ b ∷ []) few = refl
few_words f (a ∷ b ∷ c ∷ []) few = refl
few_words f (a ∷ b ∷ c ∷ d ∷ []) few = refl
few_words f (a ∷ b ∷ c ∷ d ∷ e ∷ []) few = refl
few_words f (a ∷ b ∷ c ∷ d ∷ e ∷ u ∷ []) few = refl
few_words f (a ∷ b ∷ c ∷ d ∷ e ∷ u ∷ g ∷ []) few = refl
few_words f (a ∷ b ∷ c ∷ d ∷ e ∷ u ∷ g ∷ h ∷ xs) few = absurd (omega (arith, few))

-- what a test lets through
pub passed : (b : Bool) (x y : List ℕ) → Some y ≡ cond b (Some x) None → (b ≡ true) × (y ≡ x)
passed true x y is = (refl, cc)
passed false x y is = absurd (cc)

-- the needs with one more in front of the rest
pub one_more : (env : List ℕ) (all : Option (List (List ℕ))) (before : List (List ℕ)) (option app folder name : List ℕ) (more : List (List ℕ)) →
    all ≡ option_map (λ rest. before ++ rest) (needs_of env (option ∷ app ∷ folder ∷ more)) →
    Some name ≡ cond (bytes_eq option (codes "--need") && is_output env app folder) (Some app) None →
    all ≡ option_map (λ rest. (before ++ name ∷ []) ++ rest) (needs_of env more)
one_more env all before option app folder name more is named =
    let p = passed (bytes_eq option (codes "--need") && is_output env app folder) app name named in
    is
    ∙ ap (λ (b : Bool). option_map (λ rest. before ++ rest) (cond b (option_map (λ needs. app ∷ needs) (needs_of env more)) None)) p.0
    ∙ pushed (needs_of env more)
    ∙ ap (λ (n : List ℕ). option_map (λ rest. (before ++ n ∷ []) ++ rest) (needs_of env more)) (sym p.1)
  where
    pushed : (o : Option (List (List ℕ))) →
        option_map (λ rest. before ++ rest) (option_map (λ needs. app ∷ needs) o) ≡ option_map (λ rest. (before ++ app ∷ []) ++ rest) o
    pushed None = refl
    pushed (Some needs) = ap Some (sym (append_assoc before (app ∷ []) needs))

-- what is left once words were taken from the front
rest_whole : {X : Type 0} (xs : List X) (count : ℕ) → take (length xs - count) (drop count xs) ≡ drop count xs
rest_whole xs count = let left = length-drop count xs in take_all (length xs - count) (drop count xs) (omega (arith, left))

-- one need after another
pub needs_on : {X : Type 0} (f : X → List ℕ) (env : List ℕ) (all : Option (List (List ℕ))) (before after : List (List ℕ)) (rest : List X) (o a d : X)
    (option app folder name : List ℕ) → 3 ≤ length rest → option ≡ f (get_or rest 0 o) → app ≡ f (get_or rest 1 a) → folder ≡ f (get_or rest 2 d) →
    all ≡ option_map (λ more. before ++ more) (needs_of env (map f rest)) →
    Some name ≡ cond (bytes_eq option (codes "--need") && is_output env app folder) (Some app) None → after ≡ before ++ name ∷ [] →
    all ≡ option_map (λ more. after ++ more) (needs_of env (map f (take (length rest - 3) (drop 3 rest))))
needs_on f env all before after rest o a d option app folder name long first second third is named pushed =
    one_more env all before option app folder name (map f (drop 3 rest))
    (is
    ∙ ap (λ (ws : List (List ℕ)). option_map (λ more. before ++ more) (needs_of env ws)) (three_words f rest o a d long)
    ∙ (λ i. option_map (λ more. before ++ more) (needs_of env (sym first i ∷ sym second i ∷ sym third i ∷ map f (drop 3 rest)))))
    named
    ∙ ap (λ (items : List (List ℕ)). option_map (λ more. items ++ more) (needs_of env (map f (drop 3 rest)))) (sym pushed)
    ∙ ap (λ ys. option_map (λ more. after ++ more) (needs_of env (map f ys))) (sym (rest_whole rest 3))

-- eight words, and the others
eight_words : {X : Type 0} (f : X → List ℕ) (xs : List X) (a b c d e u g h : X) → 8 ≤ length xs →
    map f xs ≡ f (get_or xs 0 a) ∷ f (get_or xs 1 b) ∷ f (get_or xs 2 c) ∷ f (get_or xs 3 d) ∷ f (get_or xs 4 e) ∷ f (get_or xs 5 u) ∷ f (get_or xs 6 g) ∷
    f (get_or xs 7 h) ∷ map f (drop 8 xs)
eight_words f [] a b c d e u g h long = absurd (omega (arith, long))
eight_words f (p ∷ []) a b c d e u g h long = absurd (omega (arith, long))
eight_words f (p ∷ q ∷ []) a b c d e u g h long = absurd (omega (arith, long))
eight_words f (p ∷ q ∷ r ∷ []) a b c d e u g h long = absurd (omega (arith, long))
eight_words f (p ∷ q ∷ r ∷ s ∷ []) a b c d e u g h long = absurd (omega (arith, long))
eight_words f (p ∷ q ∷ r ∷ s ∷ t ∷ []) a b c d e u g h long = absurd (omega (arith, long))
eight_words f (p ∷ q ∷ r ∷ s ∷ t ∷ v ∷ []) a b c d e u g h long = absurd (omega (arith, long))
eight_words f (p ∷ q ∷ r ∷ s ∷ t ∷ v ∷ w ∷ []) a b c d e u g h long = absurd (omega (arith, long))
eight_words f (p ∷ q ∷ r ∷ s ∷ t ∷ v ∷ w ∷ x ∷ xs) a b c d e u g h long = refl

-- the words of a call by what is read of each
pub words_are : {X : Type 0} (f : X → List ℕ) (xs : List X) (a b c d e u g h : X) (k l m n p q r s : List ℕ) → 8 ≤ length xs →
    k ≡ f (get_or xs 0 a) → l ≡ f (get_or xs 1 b) → m ≡ f (get_or xs 2 c) → n ≡ f (get_or xs 3 d) → p ≡ f (get_or xs 4 e) → q ≡ f (get_or xs 5 u) →
    r ≡ f (get_or xs 6 g) → s ≡ f (get_or xs 7 h) →
    k ∷ l ∷ m ∷ n ∷ p ∷ q ∷ r ∷ s ∷ map f (take (length xs - 8) (drop 8 xs)) ≡ map f xs
words_are f xs a b c d e u g h k l m n p q r s long ka lb mc nd pe qu rg sh =
    (λ i. ka i ∷ lb i ∷ mc i ∷ nd i ∷ pe i ∷ qu i ∷ rg i ∷ sh i ∷ map f (rest_whole xs 8 i)) ∙ sym (eight_words f xs a b c d e u g h long)

-- the task that eight words and the needs behind them ask for
pub task_is : (a app e env s src o out : List ℕ) (more : List (List ℕ)) (own_app own_env own_src : List ℕ) (needs : Option (List (List ℕ))) →
    are_options a e s o ≡ true → Some own_env ≡ cond (is_app_name env) (Some env) None → Some own_app ≡ cond (is_output own_env app out) (Some app) None →
    Some own_src ≡ source_folder src → needs ≡ needs_of own_env more →
    task_with own_app own_env (Some own_src) needs ≡ task_of (a ∷ app ∷ e ∷ env ∷ s ∷ src ∷ o ∷ out ∷ more)
task_is a app e env s src o out more own_app own_env own_src needs options of_env of_app of_src of_needs =
    let env_is = passed (is_app_name env) env own_env of_env in
    let app_is = passed (is_output own_env app out) app own_app of_app in
    let output : is_output env app out ≡ true = ap (λ (x : List ℕ). is_output x app out) (sym env_is.1) ∙ app_is.0 in
    let task : Option Task = task_with app env (source_folder src) (needs_of env more) in
    (λ i. task_with (app_is.1 i) (env_is.1 i) (of_src i) (with_env env_is.1 i))
    ∙ sym (ap (λ (b : Bool). cond (b && (is_app_name env && is_output env app out)) task None) options
    ∙ ap (λ (b : Bool). cond (b && is_output env app out) task None) env_is.0
    ∙ ap (λ (b : Bool). cond b task None) output)
  where
    with_env : own_env ≡ env → needs ≡ needs_of env more
    with_env is = of_needs ∙ ap (λ (x : List ℕ). needs_of x more) is
