-- The address at which the program listens.
use Rattle.std.specs.Prelude.{◌≡◌, ℕ, [], ◌∷◌}
use Rattle.std.specs.Net.Addr.{ipv4_octets, MatchIp}
use Rattle.std.specs.Net.Socket.{socket_ip, socket_port}
use Rattle.std.specs.declared.net.socket_addr.SocketAddr.{SocketAddr}

-- it is 127.0.0.1 with this port
pub record IsLocal (address : SocketAddr) (number : ℕ) : Type 0 where
  pub ip : MatchIp (socket_ip address) (λ ip. ipv4_octets ip ≡ 127 ∷ 0 ∷ 0 ∷ 1 ∷ []) (λ ip. ⊥)
  pub port : socket_port address ≡ number
