-- Which cores have the ends of which mailboxes, and how many hints the queue of each core has room for.
use Rattle.std.specs.Prelude.{ℕ, zero, suc, ◌+◌, ◌*◌, ◌-◌, ◌==◌, max, cond, get_or, Option, None, Some, List, [], ◌∷◌, ◌++◌, length}
use Rattle.forec_kernel.specs.Shapes.{PlainShape}
use Rattle.forec_kernel.specs.WellFormed.{thread_of}
use Rattle.thread_code.specs.Valid.{of_shape}

abbrev pub core_of : List ℕ → Option ℕ → ℕ
core_of places None = 0
core_of places (Some t) = get_or places t 0

module _ (shape : PlainShape) (places : List ℕ) where
  -- Mailbox k has its parent's end on the core of the parent of thread k + 1, and its child's end on that of thread k + 1.
  abbrev pub mailbox_cores : ℕ → ℕ × ℕ
  mailbox_cores k = (core_of places (thread_of (of_shape shape) (suc k)).parent, get_or places (suc k) 0)

  -- of the first n mailboxes
  abbrev pub ends_of_first : ℕ → List (ℕ × ℕ)
  ends_of_first zero = []
  ends_of_first (suc n) = ends_of_first n ++ mailbox_cores n ∷ []

  -- of all
  abbrev pub mailbox_ends : List (ℕ × ℕ)
  mailbox_ends = ends_of_first (length shape.threads - 1)

-- how many of these ends are on a core
abbrev pub ends_on : ℕ → List (ℕ × ℕ) → ℕ
ends_on core [] = 0
ends_on core (e ∷ es) = cond (e.0 == core) 1 0 + (cond (e.1 == core) 1 0 + ends_on core es)

-- twice as many hints, and at least one
abbrev pub room_on : ℕ → List (ℕ × ℕ) → ℕ
room_on core ends = max (2 * ends_on core ends) 1

-- of the first n cores
abbrev pub rooms_of_first : List (ℕ × ℕ) → ℕ → List ℕ
rooms_of_first ends zero = []
rooms_of_first ends (suc n) = rooms_of_first ends n ++ room_on n ends ∷ []
