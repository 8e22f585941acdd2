-- Which reply a thread gives.
use Rattle.std.specs.Prelude.{ℕ, ◌<◌, List, [], length, map}
use Rattle.forec_kernel.specs.Packets.{PlainPacket}
use Rattle.forec_kernel.specs.Packed.{AreJobs, PacketAnswers}
use Rattle.forec_kernel.specs.Engine.{Exchange, Output, Answers, Allowed, pair_all}
use Rattle.combine_tree.specs.declared.packet.PacketKind.{PacketKind}
use Rattle.combine_tree.specs.declared.packet.PacketKind.TheVariants as kind
use Rattle.thread_code.specs.Plain.{PlainCode}
use Rattle.thread_code.specs.Alone.{CodeAlone}
use Rattle.core_machine.specs.declared.thread.Thread.{Thread}
use Rattle.core_machine.specs.Threads.{HasPaused, RepliesToLast}

-- it is a reply; and that the thread paused, only where it did
abbrev pub RepliesByKind : Thread → PacketKind → Type 0
RepliesByKind h kind.Paused = HasPaused h
RepliesByKind h kind.Ended = Unit {0}
RepliesByKind h (kind.Trapped place trap) = Unit {0}
RepliesByKind h kind.Over = Unit {0}
RepliesByKind h _ = ⊥

-- each reply in these exchanges is one that its branch, a thread of a greater number, gives to the jobs that it was told
abbrev pub BranchesAnswer : PlainCode → ℕ → List Exchange → Type 0
BranchesAnswer c t xs =
    (os : List Output) → CodeAlone c t xs os → Allowed (λ b js r. (t < b) × Answers (CodeAlone c) (length c.threads) b js r) [] (pair_all xs os)

-- where the branches' replies answer their jobs, so does the packet that a thread gives to the last of its own
abbrev pub RepliesAnswer : Type 0
RepliesAnswer =
    (c : PlainCode) (t : ℕ) (xs : List Exchange) (p : PlainPacket) (jobs : List PlainPacket) → t < length c.threads → RepliesToLast c t xs p →
    AreJobs jobs (map (λ x. x.job) xs) → BranchesAnswer c t xs → PacketAnswers (CodeAlone c) (length c.threads) t jobs p
