-- Texts and their steps inside frames.
use Rattle.std.proofs.Common.{◌≡◌, ◌∙◌, ℕ, suc, ◌+◌, ◌-◌, ◌==◌, ◌<◌, ℤ, Bool, cond, true, false, List, [], ◌∷◌, ◌++◌, length, take, drop, get_or, refl, ap, sym, arith}
use Rattle.std.proofs.lemmas.Bool.Decides.{nat_tests}
use Rattle.std.proofs.lemmas.List.{take_more}
use Rattle.std.proofs.Math.Seq.{take-length}
use Rattle.forec_base.specs.declared.Place.{Place}
use Rattle.forec_base.specs.declared.Trap.{Trap}
use Rattle.forec_kernel.specs.declared.shape.VarCopy.{VarCopy}
use Rattle.forec_kernel.specs.declared.terms.Statement.{Statement}
use Rattle.forec_kernel.specs.Plain.{stmt, stmts}
use Rattle.forec_kernel.specs.Shapes.{PlainKernel}
use Rattle.forec_kernel.specs.Texts.{RunningText, Done, Then, Go_on, then_list, text_of, texts_of}
use Rattle.forec_kernel.specs.Steps.{Path, Move, Finished, Halts, Moves, Traps, text_move}
use Rattle.running_threads.specs.declared.threads.Frame.{Frame}
use Rattle.running_threads.specs.declared.threads.Frame.TheVariants as frame
use Rattle.running_threads.specs.Views.{framed, plugged}
use Rattle.running_threads.specs.Moves.{framed_move, plugged_move}

-- ---- one more frame inside

pub plugged_in : (fs gs : List Frame) (R : RunningText) → plugged (fs ++ gs) R ≡ plugged fs (plugged gs R)
plugged_in [] gs R = refl
plugged_in (f ∷ fs) gs R = ap (framed f) (plugged_in fs gs R)

pub plugged_move_in : (fs gs : List Frame) (w : List ℤ) (c : List VarCopy) (m : Move) → plugged_move (fs ++ gs) w c m ≡ plugged_move fs w c (plugged_move gs w c m)
plugged_move_in [] gs w c m = refl
plugged_move_in (f ∷ fs) gs w c m = ap (framed_move f w c) (plugged_move_in fs gs w c m)

-- ---- a step of the focus is a step of the whole text

pub move_plugged : (k : PlainKernel) (path : Path) (uses : List ℕ) (w : List ℤ) (c : List VarCopy) (fs : List Frame) (R : RunningText) →
    text_move k path uses w c (plugged fs R) ≡ plugged_move fs w c (text_move k path uses w c R)
move_plugged k path uses w c [] R = refl
move_plugged k path uses w c (frame.Rest list ∷ fs) R = ap (framed_move (frame.Rest list) w c) (move_plugged k path uses w c fs R)
move_plugged k path uses w c (frame.Again turn ∷ fs) R = ap (framed_move (frame.Again turn) w c) (move_plugged k path uses w c fs R)
move_plugged k path uses w c (frame.Watch weak e ∷ fs) R = ap (framed_move (frame.Watch weak e) w c) (move_plugged k path uses w c fs R)
move_plugged k path uses w c (frame.Last ∷ fs) R = ap (framed_move frame.Last w c) (move_plugged k path uses w c fs R)

pub plugged_goes : (fs : List Frame) (w w' : List ℤ) (c c' : List VarCopy) (R : RunningText) (u : ℕ) → plugged_move fs w c (Moves R w' c' u) ≡ Moves (plugged fs R) w' c' u
plugged_goes [] w w' c c' R u = refl
plugged_goes (frame.Rest list ∷ fs) w w' c c' R u = ap (framed_move (frame.Rest list) w c) (plugged_goes fs w w' c c' R u)
plugged_goes (frame.Again turn ∷ fs) w w' c c' R u = ap (framed_move (frame.Again turn) w c) (plugged_goes fs w w' c c' R u)
plugged_goes (frame.Watch weak e ∷ fs) w w' c c' R u = ap (framed_move (frame.Watch weak e) w c) (plugged_goes fs w w' c c' R u)
plugged_goes (frame.Last ∷ fs) w w' c c' R u = ap (framed_move frame.Last w c) (plugged_goes fs w w' c c' R u)

pub plugged_traps : (fs : List Frame) (w : List ℤ) (c : List VarCopy) (place : Place) (trap : Trap) (u : ℕ) → plugged_move fs w c (Traps place trap u) ≡ Traps place trap u
plugged_traps [] w c place trap u = refl
plugged_traps (frame.Rest list ∷ fs) w c place trap u = ap (framed_move (frame.Rest list) w c) (plugged_traps fs w c place trap u)
plugged_traps (frame.Again turn ∷ fs) w c place trap u = ap (framed_move (frame.Again turn) w c) (plugged_traps fs w c place trap u)
plugged_traps (frame.Watch weak e ∷ fs) w c place trap u = ap (framed_move (frame.Watch weak e) w c) (plugged_traps fs w c place trap u)
plugged_traps (frame.Last ∷ fs) w c place trap u = ap (framed_move frame.Last w c) (plugged_traps fs w c place trap u)

-- ---- sequences

suc_not_zero : (n : ℕ) → (suc n == 0) ≡ false
suc_not_zero n = grind (arith, nat_tests)

pub then_list_some : (R : RunningText) (xs : List Statement) → (length xs == 0) ≡ false → Then R (Go_on (stmts xs)) ≡ then_list R (stmts xs)
then_list_some R [] e = cc
then_list_some R (x ∷ xs) e = refl

pub then_list_none : (R : RunningText) (xs : List Statement) → (length xs == 0) ≡ true → R ≡ then_list R (stmts xs)
then_list_none R [] e = refl
then_list_none R (x ∷ xs) e = let n = suc_not_zero (length xs) in cc

pub texts_none : (xs : List Statement) → (length xs == 0) ≡ true → Done ≡ texts_of (stmts xs)
texts_none [] e = refl
texts_none (x ∷ xs) e = let n = suc_not_zero (length xs) in cc

pub texts_some : (xs : List Statement) (x : Statement) → (length xs == 0) ≡ false → x ≡ get_or xs 0 x →
    then_list (text_of (stmt x)) (stmts (take (length xs - 1) (drop 1 xs))) ≡ texts_of (stmts xs)
texts_some [] x e read = cc
texts_some (y ∷ ys) x e read =
    let all : suc (length ys) - 1 ≡ length ys = omega arith in
    ap (λ n. then_list (text_of (stmt x)) (stmts (take n ys))) all ∙ ap (λ zs. then_list (text_of (stmt x)) (stmts zs)) (take-length ys)
    ∙ ap (λ s. then_list (text_of (stmt s)) (stmts ys)) read

-- ---- leaving frames

pub resumed : (fs gs : List Frame) (f : Frame) (R : RunningText) → fs ≡ gs ++ f ∷ [] →
    ((w : List ℤ) (c : List VarCopy) → framed_move f w c Finished ≡ Moves R w c 0) →
    (w : List ℤ) (c : List VarCopy) → plugged_move fs w c Finished ≡ Moves (plugged gs R) w c 0
resumed fs gs f R e h w c =
    ap (λ l. plugged_move l w c Finished) e ∙ plugged_move_in gs (f ∷ []) w c Finished ∙ ap (plugged_move gs w c) (h w c) ∙ plugged_goes gs w w c c R 0

-- the same at a frame that is known by an equation
pub resumed_as : (fs gs : List Frame) (f g : Frame) (R : RunningText) → fs ≡ gs ++ f ∷ [] → f ≡ g →
    ((w : List ℤ) (c : List VarCopy) → framed_move g w c Finished ≡ Moves R w c 0) →
    (w : List ℤ) (c : List VarCopy) → plugged_move fs w c Finished ≡ Moves (plugged gs R) w c 0
resumed_as fs gs f g R e is h = resumed fs gs g R (e ∙ ap (λ x. gs ++ x ∷ []) is) h

pub one_more : (fs gs : List Frame) (f : Frame) (R : RunningText) → gs ≡ fs ++ f ∷ [] → plugged gs R ≡ plugged fs (framed f R)
one_more fs gs f R e = ap (λ l. plugged l R) e ∙ plugged_in fs (f ∷ []) R

pub halts_past : (fs : List Frame) (at : ℕ) (f : Frame) → at < length fs → f ≡ get_or fs at f → (w : List ℤ) (c : List VarCopy) →
    plugged_move (take (at + 1) fs) w c Halts ≡ plugged_move (take at fs) w c (framed_move f w c Halts)
halts_past fs at f lt read w c =
    ap (λ l. plugged_move l w c Halts) (take_more fs at f lt) ∙ plugged_move_in (take at fs) (get_or fs at f ∷ []) w c Halts
    ∙ ap (λ x. plugged_move (take at fs) w c (framed_move x w c Halts)) (sym read)

-- the frames from a place on let a halt through
abbrev pub LetsThrough : List Frame → ℕ → Type 0
LetsThrough fs at = (w : List ℤ) (c : List VarCopy) → plugged_move fs w c Halts ≡ plugged_move (take at fs) w c Halts

-- whether a frame is a last piece
abbrev pub Tells : Frame → Bool → Type 0
Tells f b = (w : List ℤ) (c : List VarCopy) → framed_move f w c Halts ≡ cond b (Moves Done w c 0) Halts

pub all_through : (fs : List Frame) (at : ℕ) → at ≡ length fs → LetsThrough fs at
all_through fs at e w c = ap (λ l. plugged_move l w c Halts) (sym (take-length fs) ∙ ap (λ n. take n fs) (sym e))

pub none_through : (fs : List Frame) (at : ℕ) → at ≡ 0 → LetsThrough fs at → (w : List ℤ) (c : List VarCopy) → plugged_move fs w c Halts ≡ Halts
none_through fs at z h w c = h w c ∙ ap (λ n. plugged_move (take n fs) w c Halts) z

pub one_through : (fs : List Frame) (at next : ℕ) (f : Frame) (b : Bool) → next + 1 ≡ at → next < length fs → f ≡ get_or fs next f →
    Tells f b → b ≡ false → LetsThrough fs at → LetsThrough fs next
one_through fs at next f b e lt read t b-is h w c =
    h w c ∙ ap (λ n. plugged_move (take n fs) w c Halts) (sym e) ∙ halts_past fs next f lt read w c
    ∙ ap (plugged_move (take next fs) w c) (t w c ∙ ap (λ x. cond x (Moves Done w c 0) Halts) b-is)

pub stops_at : (fs : List Frame) (at next : ℕ) (f : Frame) (b : Bool) → next + 1 ≡ at → next < length fs → f ≡ get_or fs next f →
    Tells f b → b ≡ true → LetsThrough fs at → (w : List ℤ) (c : List VarCopy) →
    plugged_move fs w c Halts ≡ Moves (plugged (take next fs) Done) w c 0
stops_at fs at next f b e lt read t b-is h w c =
    h w c ∙ ap (λ n. plugged_move (take n fs) w c Halts) (sym e) ∙ halts_past fs next f lt read w c
    ∙ ap (plugged_move (take next fs) w c) (t w c ∙ ap (λ x. cond x (Moves Done w c 0) Halts) b-is)
    ∙ plugged_goes (take next fs) w w c c Done 0
