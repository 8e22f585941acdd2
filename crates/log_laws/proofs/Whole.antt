-- The places in the kernel of a text that is accepted.
use Rattle.std.proofs.Common.{ℕ, suc, ◌<◌, ◌≤◌, ◌^◌, List, length, arith}
use Rattle.forec_tree.specs.Terms as tree
use Rattle.text_kernel.specs.Kernels.{kernel_of}
use Rattle.log_ranges.specs.Places.{KernelPlaces}
use Rattle.text_places.proofs.Whole.{spelled_programs_have_places}
use Rattle.text_verdict.specs.Judging.{most_text_bytes, most_levels, Verdict, Accepts, Refuses, OnUnbroken, beyond, accepted, OnProgram, broken, unbroken, spelled, stuck, too_deep, Judged, too_long, stops, too_many, lexed}
use Rattle.log_laws.specs.Laws.{AcceptedTextsHavePlaces}

abbrev Told : Verdict → Type 0
Told (Accepts counts k) = KernelPlaces k
Told (Refuses why) = Unit {0}

on_unbroken : (program : tree.Text) (names : List (List ℕ)) (v : Verdict) → KernelPlaces (kernel_of program names) → OnUnbroken program names v → Told v
on_unbroken program names v h (beyond what count is) = tt
on_unbroken program names v h (accepted w) = h

on_program : (program : tree.Text) (names : List (List ℕ)) (v : Verdict) → KernelPlaces (kernel_of program names) → OnProgram program names v → Told v
on_program program names v h (broken place rule least) = tt
on_program program names v h (unbroken f u) = on_unbroken program names v h u

few_bytes : (n : ℕ) → n ≤ most_text_bytes → suc n < 2 ^ 32
few_bytes n le = omega (arith, le)

on_text : (text : List ℕ) (v : Verdict) → Judged text v → Told v
on_text text v (too_long h) = tt
on_text text v (stops place l h) = tt
on_text text v (too_many place l h) = tt
on_text text v (lexed tokens names l x (spelled program s p)) =
    on_program program names v (spelled_programs_have_places text tokens names most_levels program (few_bytes (length text) l) x s) p
on_text text v (lexed tokens names l x (stuck n h)) = tt
on_text text v (lexed tokens names l x (too_deep n h)) = tt

pub accepted_texts_have_places : AcceptedTextsHavePlaces
accepted_texts_have_places text counts k h = on_text text (Accepts counts k) h
