-- What a kernel says of a thread, and copies handed down.
use Rattle.std.proofs.Common.{◌≡◌, ◌∙◌, ℕ, zero, suc, ◌+◌, ◌≤◌, ◌<◌, min, false, ℤ, List, [], ◌∷◌, ◌++◌, length, take, drop, get_or, map, refl, ap, sym, arith, Vec, Global}
use Rattle.std.proofs.lemmas.List.{take_more, drop_more}
use Rattle.forec_kernel.specs.Terms.{Nop}
use Rattle.forec_kernel.specs.Plain.{stmt, branch}
use Rattle.forec_kernel.specs.Shapes.{plain_thread}
use Rattle.forec_kernel.specs.declared.shape.ThreadShape.{ThreadShape}
use Rattle.forec_kernel.specs.declared.shape.VarCopy.{VarCopy}
use Rattle.forec_kernel.specs.declared.terms.Launch.{Launch}
use Rattle.forec_kernel.specs.declared.terms.Statement.{Statement}
use Rattle.forec_kernel.specs.Values.{copy_of}
use Rattle.forec_kernel.specs.Texts.{no_threads, params_in, words_in, uses_in, handed_down}
use Rattle.forec_kernel.specs.Steps.{Owner, started}

pub params_at : (xs : List ThreadShape) (t : ℕ) (d : ThreadShape) → t < length xs → (get_or xs t d).params ≡ params_in (map plain_thread xs) t
params_at [] t d h = absurd (omega arith)
params_at (x ∷ xs) zero d h = refl
params_at (x ∷ xs) (suc t) d h = params_at xs t d (omega arith)

pub params_past : (xs : List ThreadShape) (t : ℕ) → length xs ≤ t → 0 ≡ params_in (map plain_thread xs) t
params_past [] t h = refl
params_past (x ∷ xs) zero h = absurd (omega arith)
params_past (x ∷ xs) (suc t) h = params_past xs t (omega arith)

pub words_at : (xs : List ThreadShape) (t : ℕ) (d : ThreadShape) → t < length xs → (get_or xs t d).words ≡ words_in (map plain_thread xs) t
words_at [] t d h = absurd (omega arith)
words_at (x ∷ xs) zero d h = refl
words_at (x ∷ xs) (suc t) d h = words_at xs t d (omega arith)

pub words_past : (xs : List ThreadShape) (t : ℕ) → length xs ≤ t → 0 ≡ words_in (map plain_thread xs) t
words_past [] t h = refl
words_past (x ∷ xs) zero h = absurd (omega arith)
words_past (x ∷ xs) (suc t) h = words_past xs t (omega arith)

pub uses_at : (xs : List ThreadShape) (t : ℕ) (d : ThreadShape) → t < length xs → (get_or xs t d).uses.items ≡ uses_in (map plain_thread xs) t
uses_at [] t d h = absurd (omega arith)
uses_at (x ∷ xs) zero d h = refl
uses_at (x ∷ xs) (suc t) d h = uses_at xs t d (omega arith)

pub uses_past : (xs : List ThreadShape) (t : ℕ) → length xs ≤ t → [] ≡ uses_in (map plain_thread xs) t
uses_past [] t h = refl
uses_past (x ∷ xs) zero h = absurd (omega arith)
uses_past (x ∷ xs) (suc t) h = uses_past xs t (omega arith)

pub body_at : (xs : List Statement) (t : ℕ) (x : Statement) → t < length xs → x ≡ get_or xs t x → stmt x ≡ get_or (map stmt xs) t Nop
body_at xs t x h read = ap stmt read ∙ at xs t x h
  where
    at : (xs : List Statement) (t : ℕ) (d : Statement) → t < length xs → stmt (get_or xs t d) ≡ get_or (map stmt xs) t Nop
    at [] t d h = absurd (omega arith)
    at (y ∷ ys) zero d h = refl
    at (y ∷ ys) (suc t) d h = at ys t d (omega arith)

pub body_past : (xs : List Statement) (t : ℕ) → length xs ≤ t → Nop ≡ get_or (map stmt xs) t Nop
body_past [] t h = refl
body_past (x ∷ xs) zero h = absurd (omega arith)
body_past (x ∷ xs) (suc t) h = body_past xs t (omega arith)

handed-push : (us : List ℕ) (cs : List VarCopy) (xs : List ℕ) (v : ℕ) →
    handed_down us cs (xs ++ v ∷ []) ≡ handed_down us cs xs ++ record { value = (copy_of us cs v).value; modified = false } ∷ []
handed-push us cs [] v = refl
handed-push us cs (x ∷ xs) v = ap (λ l. record { value = (copy_of us cs x).value; modified = false } ∷ l) (handed-push us cs xs v)

pub handed_more : (us : List ℕ) (cs : List VarCopy) (vs : List ℕ) (i d : ℕ) (done : List VarCopy) → i < length vs → done ≡ handed_down us cs (take i vs) →
    done ++ record { value = (copy_of us cs (get_or vs i d)).value; modified = false } ∷ [] ≡ handed_down us cs (take (i + 1) vs)
handed_more us cs vs i d done h e =
    ap (λ l. l ++ record { value = (copy_of us cs (get_or vs i d)).value; modified = false } ∷ []) e
    ∙ sym (handed-push us cs (take i vs) (get_or vs i d)) ∙ ap (handed_down us cs) (sym (take_more vs i d h))

-- ---- the children of a fork, from the last on

abbrev items_of : List (Vec ℤ Global) → List (List ℤ)
items_of vs = map (λ v. v.items) vs

pub started_none : (o : Owner) (cs : List VarCopy) (bs : List Launch) (as' : List (Vec ℤ Global)) (i : ℕ) → i ≡ min (length bs) (length as') →
    no_threads ≡ started o cs (map branch (drop i bs)) (map (λ v. v.items) (drop i as'))
started_none o cs [] as' zero e = refl
started_none o cs [] as' (suc i) e = absurd (omega arith)
started_none o cs (b ∷ bs) [] zero e = refl
started_none o cs (b ∷ bs) [] (suc i) e = absurd (omega arith)
started_none o cs (b ∷ bs) (a ∷ as') zero e = absurd (omega arith)
started_none o cs (b ∷ bs) (a ∷ as') (suc i) e = started_none o cs bs as' i (omega arith)

pub drop_next : {A : Type 0} (xs : List A) (i : ℕ) (x : A) → i < length xs → x ≡ get_or xs i x → drop i xs ≡ x ∷ drop (i + 1) xs
drop_next xs i x h read = drop_more xs i x h ∙ ap (λ y. y ∷ drop (i + 1) xs) (sym read)
