-- What a host knows of its port.
use Rattle.std.specs.Prelude.{suc, ◌≡◌, length}
use Rattle.thread_code.specs.Valid.{IsValidCode}
use Rattle.core_host.specs.Hosted.{Hosted, code_of}

-- the code is valid, and the port is one for it, with a mailbox for each thread but thread 0
pub record HasOwnPort (h : Hosted) : Type 0 where
  pub valid : IsValidCode (code_of h)
  pub work : h.mail.work.code.value ≡ h.code
  pub mailboxes : suc (length h.mail.ends) ≡ length (code_of h).threads
